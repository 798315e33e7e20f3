use Rattle.past_monitor.proofs.OneAnswer.{one_answer as the_one}
use Rattle.past_monitor.proofs.laws.one_answer.Goals as goal

pub returns : goal.returns
returns c = the_one
