use Rattle.requirement_answers.proofs.Recorded.{records_traces}
use Rattle.requirement_answers.proofs.laws.behaviours_are_traces.Goals as goal

pub returns : goal.returns
returns c = records_traces
