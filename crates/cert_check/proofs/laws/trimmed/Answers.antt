use Rattle.cert_check.proofs.Closing.{targets_lines, trimmed_closes, trimmed_verifies}
use Rattle.cert_check.proofs.laws.trimmed.Goals as goal

pub returns-clause-lines : goal.returns-clause-lines
returns-clause-lines c f kind k log targets w = targets_lines f kind k log targets w

pub returns-clause-closes : goal.returns-clause-closes
returns-clause-closes c f kind k log targets M needed w = trimmed_closes f kind k log targets w M needed

pub returns-clause-verify : goal.returns-clause-verify
returns-clause-verify c = trimmed_verifies
