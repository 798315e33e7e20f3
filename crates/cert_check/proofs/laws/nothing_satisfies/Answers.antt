use Rattle.cert_check.proofs.Refuting.{lawful_has_no_trace}
use Rattle.cert_check.proofs.laws.nothing_satisfies.Goals as goal

pub returns : goal.returns
returns c = lawful_has_no_trace
