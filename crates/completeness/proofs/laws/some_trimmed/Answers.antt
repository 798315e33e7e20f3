use Rattle.completeness.proofs.Marked.{trimmed_is_there}
use Rattle.completeness.proofs.laws.some_trimmed.Goals as goal

pub returns : goal.returns
returns c = trimmed_is_there
