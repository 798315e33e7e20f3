use Rattle.ltl_parser.proofs.Readings.{one_lexical_fault, one_grammar_fault, one_text_reading, lexical_not_grammar, lexical_not_read, grammar_not_read}
use Rattle.ltl_parser.proofs.Readings.{read_or_fault, some_outcome}
use Rattle.ltl_parser.proofs.laws.one_outcome.Goals as goal

pub returns : goal.returns
returns c = record {
  one_lexical_fault = one_lexical_fault;
  one_grammar_fault = one_grammar_fault;
  one_formula = one_text_reading;
  lexical_not_grammar = lexical_not_grammar;
  lexical_not_read = lexical_not_read;
  grammar_not_read = grammar_not_read;
  read_or_fault = read_or_fault;
  some_outcome = some_outcome;
}
