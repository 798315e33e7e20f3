use Rattle.log_checker.proofs.Ranges.{first_bad_is_there, cuts_agree}
use Rattle.log_checker.proofs.Taken.{taken}
use Rattle.log_checker.proofs.laws.judging.Goals as goal

pub returns-clause-first : goal.returns-clause-first
returns-clause-first c = first_bad_is_there

pub returns-clause-cuts : goal.returns-clause-cuts
returns-clause-cuts c = cuts_agree

pub returns-clause-kept : goal.returns-clause-kept
returns-clause-kept c = λ letters parts. (taken letters parts).live
