use Rattle.requirement_answers.proofs.Wished.{is_as_wished}
use Rattle.requirement_answers.proofs.laws.verdict_is_right.Goals as goal

pub returns : goal.returns
returns c d r w is = is_as_wished c.decided.ensures d r w is
