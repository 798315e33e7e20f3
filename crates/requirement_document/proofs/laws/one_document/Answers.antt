use Rattle.requirement_document.proofs.Good.{IsOneOutcome}
use Rattle.requirement_document.proofs.Determined.{one_document}
use Rattle.requirement_document.proofs.laws.one_document.Goals as goal

pub returns : goal.returns
returns c =
    let laws = c.one_outcome.ensures in
    let o : IsOneOutcome = record { formula = laws.one_formula; lexical = laws.lexical_not_read; grammar = laws.grammar_not_read } in
    one_document o
