use Rattle.core_extract.specs.Core.{tableau}
use Rattle.core_extract.proofs.Cores.{core_closed, core_least, reached_apart, core_no_trace}
use Rattle.core_extract.proofs.laws.core_is_least.Goals as goal

pub returns-clause-refuted : goal.returns-clause-refuted
returns-clause-refuted c kind asked f g closed core = core_closed (tableau kind asked) f g closed core

pub returns-clause-no_trace : goal.returns-clause-no_trace
returns-clause-no_trace c kind asked f g closed core = core_no_trace kind asked f g closed core

pub returns-clause-least : goal.returns-clause-least
returns-clause-least c kind asked f Q n reached kept = core_least (tableau kind asked) f Q reached n kept

pub returns-clause-apart : goal.returns-clause-apart
returns-clause-apart c kind asked f Q reached = reached_apart (tableau kind asked) f Q reached
