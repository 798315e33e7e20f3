use Rattle.ltl_run.proofs.Unique.{verdict_is_one}
use Rattle.ltl_run.proofs.laws.one_verdict.Goals as goal

pub returns : goal.returns
returns c = verdict_is_one
