use Rattle.cert_check.proofs.Refuting.{lawful_has_no_trace}
use Rattle.cert_check.proofs.Narrowing.{steps_are_lawful}
use Rattle.cert_check.proofs.Verifying.{steps_verify}
use Rattle.cert_check.proofs.laws.certified.Goals as goal

pub returns-clause-trace : goal.returns-clause-trace
returns-clause-trace c = lawful_has_no_trace

pub returns-clause-steps : goal.returns-clause-steps
returns-clause-steps c = steps_are_lawful

pub returns-clause-verify : goal.returns-clause-verify
returns-clause-verify c = steps_verify
