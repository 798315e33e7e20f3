use Rattle.ltl_lexer.proofs.OneList.{one_list}
use Rattle.ltl_lexer.proofs.laws.one_list.Goals as goal

pub returns : goal.returns
returns c text ts us f g a b = one_list ts us 0 text f g a b
