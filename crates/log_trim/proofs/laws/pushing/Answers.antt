use Rattle.std.proofs.Common.{add-one}
use Rattle.log_trim.proofs.MarkedLines.{may, goes_on, skips, ends}
use Rattle.log_trim.proofs.laws.pushing.Goals as goal

pub returns-clause-may : goal.returns-clause-may
returns-clause-may c list log M k are closed lt marked = may log M list are closed k lt marked

pub returns-clause-on : goal.returns-clause-on
returns-clause-on c log M k is lt marked = rw (add-one k) (goes_on log M is.1.paired k lt marked)

pub returns-clause-skips : goal.returns-clause-skips
returns-clause-skips c log M k is lt unmarked = rw (add-one k) (skips log M is.1.paired k lt unmarked)

pub returns-clause-ends : goal.returns-clause-ends
returns-clause-ends c log M is = ends log M is.1.paired
