use Rattle.ltl_lexer.proofs.SomeList.{some_list}
use Rattle.ltl_lexer.proofs.laws.some_list.Goals as goal

pub returns : goal.returns
returns c = some_list
