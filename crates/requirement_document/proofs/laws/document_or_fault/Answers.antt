use Rattle.requirement_document.proofs.Good.{IsOneOutcome}
use Rattle.requirement_document.proofs.Excluding.{document_has_none}
use Rattle.requirement_document.proofs.laws.document_or_fault.Goals as goal

pub returns : goal.returns
returns c =
    let laws = c.one_outcome.ensures in
    let o : IsOneOutcome = record { formula = laws.one_formula; lexical = laws.lexical_not_read; grammar = laws.grammar_not_read } in
    document_has_none o
