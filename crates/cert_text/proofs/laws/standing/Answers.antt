use Rattle.cert_text.proofs.Standing.{lines_stand, targets_stand}
use Rattle.cert_text.proofs.laws.standing.Goals as goal

pub returns-clause-lines : goal.returns-clause-lines
returns-clause-lines c = lines_stand

pub returns-clause-targets : goal.returns-clause-targets
returns-clause-targets c = targets_stand
