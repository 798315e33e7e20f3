use Rattle.depast.proofs.Future.{depast_future}
use Rattle.depast.proofs.laws.without_past.Goals as goal

pub returns : goal.returns
returns c = depast_future
