use Rattle.demand.proofs.Closes.{close_accepts, no_close_rejects, accepted_closes}
use Rattle.demand.proofs.laws.closing.Goals as goal

pub returns-clause-accepts : goal.returns-clause-accepts
returns-clause-accepts c f kind k r close h = close_accepts f k r kind close h

pub returns-clause-rejects : goal.returns-clause-rejects
returns-clause-rejects c f kind k r none acc = no_close_rejects f k r kind acc none

pub returns-clause-found : goal.returns-clause-found
returns-clause-found c f kind k r acc = accepted_closes f k r kind acc
