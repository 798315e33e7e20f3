use Rattle.ltl_lexer.proofs.Places.{parts_of_text}
use Rattle.ltl_lexer.proofs.laws.parts_of_text.Goals as goal

pub returns : goal.returns
returns c = parts_of_text
