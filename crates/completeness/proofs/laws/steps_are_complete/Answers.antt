use Rattle.completeness.proofs.Reaching.{steps_are_complete}
use Rattle.completeness.proofs.laws.steps_are_complete.Goals as goal

pub returns : goal.returns
returns c = steps_are_complete
