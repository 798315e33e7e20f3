use Rattle.black_top.proofs.Working.{workers_free}
use Rattle.black_top.proofs.laws.workers_change_no_answer.Goals as goal

pub returns : goal.returns
returns c = workers_free
