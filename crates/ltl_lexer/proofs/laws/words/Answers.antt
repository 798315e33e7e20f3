use Rattle.ltl_lexer.proofs.Words.{word_utf8, no_brace}
use Rattle.ltl_lexer.proofs.laws.words.Goals as goal

pub returns : goal.returns
returns c = record { text = word_utf8; no_brace = no_brace }
