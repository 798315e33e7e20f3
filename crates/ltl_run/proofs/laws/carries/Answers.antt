use Rattle.ltl_run.proofs.Bounds.{carry_comes_few, carry_comes_once}
use Rattle.ltl_run.proofs.laws.carries.Goals as goal

pub returns-clause-few : goal.returns-clause-few
returns-clause-few c = carry_comes_few

pub returns-clause-once : goal.returns-clause-once
returns-clause-once c = carry_comes_once
