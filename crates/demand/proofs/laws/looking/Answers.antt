use Rattle.demand.proofs.Looks.{looking_accepts, looking_unpruned}
use Rattle.demand.proofs.laws.looking.Goals as goal

pub returns-clause-accepts : goal.returns-clause-accepts
returns-clause-accepts c f kind d k v inputs rows close le has h here read e = looking_accepts f kind d k v inputs rows le has h here read close e

pub returns-clause-unpruned : goal.returns-clause-unpruned
returns-clause-unpruned c f kind d k v inputs rows le has h here read e = looking_unpruned f kind d k v inputs rows le has h here read e
