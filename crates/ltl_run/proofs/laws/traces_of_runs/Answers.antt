use Rattle.ltl_run.proofs.Traces.{accepted_has_trace}
use Rattle.ltl_run.proofs.laws.traces_of_runs.Goals as goal

pub returns : goal.returns
returns c f kind k r close plain acc = accepted_has_trace f plain kind k r close acc
