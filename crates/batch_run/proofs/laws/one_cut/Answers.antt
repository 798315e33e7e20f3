use Rattle.batch_run.proofs.Unique.{lines_one}
use Rattle.batch_run.proofs.laws.one_cut.Goals as goal

pub returns : goal.returns
returns c = lines_one
