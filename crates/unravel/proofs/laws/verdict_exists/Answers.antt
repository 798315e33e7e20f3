use Rattle.unravel.proofs.There.{verdict_there}
use Rattle.unravel.proofs.laws.verdict_exists.Goals as goal

pub returns : goal.returns
returns c = verdict_there
