use Rattle.demand.proofs.Parts.{no_run, no_accepted, no_unpruned, of_list_grows, inputs_known}
use Rattle.demand.proofs.StateRuns.{satisfied_part}
use Rattle.demand.proofs.StateNumbers.{whole_of, whole_has}
use Rattle.demand.proofs.laws.asking.Goals as goal

pub returns-clause-run : goal.returns-clause-run
returns-clause-run c = no_run

pub returns-clause-accepted : goal.returns-clause-accepted
returns-clause-accepted c = no_accepted

pub returns-clause-unpruned : goal.returns-clause-unpruned
returns-clause-unpruned c = no_unpruned

pub returns-clause-grow : goal.returns-clause-grow
returns-clause-grow c = of_list_grows

pub returns-clause-whole : goal.returns-clause-whole
returns-clause-whole c f kind d = (whole_of f kind d, whole_has f kind d)

pub returns-clause-part : goal.returns-clause-part
returns-clause-part c = satisfied_part

pub returns-clause-known : goal.returns-clause-known
returns-clause-known c = inputs_known
