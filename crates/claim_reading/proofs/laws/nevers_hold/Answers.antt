use Rattle.claim_reading.proofs.Holding.{nevers_hold}
use Rattle.claim_reading.proofs.laws.nevers_hold.Goals as goal

pub returns-clause-entries : goal.returns-clause-entries
returns-clause-entries c f kind certificate layers j lt = (layers j lt).claims

pub returns-clause-hold : goal.returns-clause-hold
returns-clause-hold c = nevers_hold
