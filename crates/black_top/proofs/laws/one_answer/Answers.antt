use Rattle.black_top.proofs.OneAnswer.{answer_one}
use Rattle.black_top.proofs.laws.one_answer.Goals as goal

pub returns : goal.returns
returns c words bytes =
    let outcome = c.one_outcome.ensures in
    answer_one words bytes (record {
      text = record {
        one_lexical = outcome.one_lexical_fault;
        one_grammar = outcome.one_grammar_fault;
        one_formula = outcome.one_formula;
        lexical_not_grammar = outcome.lexical_not_grammar;
        lexical_not_read = outcome.lexical_not_read;
        grammar_not_read = outcome.grammar_not_read;
      };
      one_reading = c.one_reading.ensures;
      one_verdict = c.one_verdict.ensures;
      one_check = c.answers.ensures.one;
      one_core = c.core_is_one.ensures.core;
      one_batch = c.one_list.ensures;
      one_watch = c.one_answer.ensures;
    })
