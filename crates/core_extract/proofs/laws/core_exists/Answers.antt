use Rattle.core_extract.proofs.Limits.{limit_there}
use Rattle.core_extract.proofs.There.{tableau_decides, core_there}
use Rattle.core_extract.proofs.laws.core_exists.Goals as goal

pub returns-clause-limit : goal.returns-clause-limit
returns-clause-limit c = limit_there

pub returns-clause-test : goal.returns-clause-test
returns-clause-test c = tableau_decides

pub returns-clause-core : goal.returns-clause-core
returns-clause-core c = core_there
