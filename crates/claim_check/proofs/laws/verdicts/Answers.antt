use Rattle.claim_check.proofs.OneVerdict.{verdict_one}
use Rattle.claim_check.proofs.SomeVerdict.{verdict_there}
use Rattle.claim_check.proofs.laws.verdicts.Goals as goal

pub returns-clause-there : goal.returns-clause-there
returns-clause-there c = verdict_there

pub returns-clause-one : goal.returns-clause-one
returns-clause-one c = verdict_one
