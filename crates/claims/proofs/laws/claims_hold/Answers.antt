use Rattle.claims.proofs.Refuting.{endless_keep, ending_keep}
use Rattle.claims.proofs.laws.claims_hold.Goals as goal

pub returns-clause-endless : goal.returns-clause-endless
returns-clause-endless c = endless_keep

pub returns-clause-ending : goal.returns-clause-ending
returns-clause-ending c = ending_keep
