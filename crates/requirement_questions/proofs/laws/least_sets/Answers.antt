use Rattle.requirement_questions.proofs.Least.{marked_least}
use Rattle.requirement_questions.proofs.laws.least_sets.Goals as goal

pub returns : goal.returns
returns c q b because all fewer among lacks there none = marked_least q b because all fewer among lacks there none
