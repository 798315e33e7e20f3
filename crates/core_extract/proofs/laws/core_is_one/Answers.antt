use Rattle.core_extract.specs.Core.{tableau}
use Rattle.core_extract.proofs.Cores.{tableau_exclusive, core_one}
use Rattle.core_extract.proofs.laws.core_is_one.Goals as goal

pub returns-clause-test : goal.returns-clause-test
returns-clause-test c = tableau_exclusive

pub returns-clause-core : goal.returns-clause-core
returns-clause-core c kind asked f = core_one (tableau kind asked) f (tableau_exclusive kind asked)
