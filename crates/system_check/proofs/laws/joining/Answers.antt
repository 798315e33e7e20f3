use Rattle.system_check.proofs.Joinings.{joining_one}
use Rattle.system_check.proofs.laws.joining.Goals as goal

pub returns : goal.returns
returns c start step goal = joining_one start step goal
