use Rattle.system_check.proofs.Paths.{system_paths, whole_paths}
use Rattle.system_check.proofs.laws.paths.Goals as goal

pub returns-clause-system : goal.returns-clause-system
returns-clause-system c start step t is good infinite = system_paths t good infinite start step is

pub returns-clause-whole : goal.returns-clause-whole
returns-clause-whole c start step goal t is good infinite = whole_paths t good infinite start step is goal
