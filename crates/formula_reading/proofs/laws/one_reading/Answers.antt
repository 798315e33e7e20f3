use Rattle.formula_reading.proofs.OneReading.{one_fault, fault_not_accepted, accepted_or_fault}
use Rattle.formula_reading.proofs.laws.one_reading.Goals as goal

pub returns-clause-one_formula : goal.returns-clause-one_formula
returns-clause-one_formula c = λ text f g h k. c.one_outcome.ensures.one_formula text f g h.reads k.reads

pub returns-clause-one_fault : goal.returns-clause-one_fault
returns-clause-one_fault c =
    let laws = c.one_outcome.ensures in
    λ text. one_fault text (record {
      one_lexical = laws.one_lexical_fault;
      one_grammar = laws.one_grammar_fault;
      one_formula = laws.one_formula;
      lexical_not_grammar = laws.lexical_not_grammar;
      lexical_not_read = laws.lexical_not_read;
      grammar_not_read = laws.grammar_not_read;
    })

pub returns-clause-not_both : goal.returns-clause-not_both
returns-clause-not_both c =
    let laws = c.one_outcome.ensures in
    λ text. fault_not_accepted text (record {
      one_lexical = laws.one_lexical_fault;
      one_grammar = laws.one_grammar_fault;
      one_formula = laws.one_formula;
      lexical_not_grammar = laws.lexical_not_grammar;
      lexical_not_read = laws.lexical_not_read;
      grammar_not_read = laws.grammar_not_read;
    })

pub returns-clause-some : goal.returns-clause-some
returns-clause-some c = accepted_or_fault c.one_outcome.ensures.some_outcome
