use Rattle.std.proofs.Common.{All}
use Rattle.cnf_base.specs.Known.{IsKnown}
use Rattle.log_trim.proofs.Keeping.{All-kept_from, kept_from_few, contains_kept}
use Rattle.log_trim.proofs.MarkedLines.{trimmed_steps, line_kept, target_kept}
use Rattle.log_trim.proofs.laws.trimming.Goals as goal

pub returns-clause-steps : goal.returns-clause-steps
returns-clause-steps c list log M are closed = trimmed_steps log M list are closed

pub returns-clause-keeps : goal.returns-clause-keeps
returns-clause-keeps c log M n line marked e = line_kept M log.lines n line marked e

pub returns-clause-targets : goal.returns-clause-targets
returns-clause-targets c log M targets i line has lt e = target_kept M log.lines targets i line has lt e

pub returns-clause-within : goal.returns-clause-within
returns-clause-within c log M greatest all = All-kept_from (All (IsKnown greatest)) M 1 log.lines all

pub returns-clause-shorter : goal.returns-clause-shorter
returns-clause-shorter c log M = kept_from_few M 1 log.lines

pub returns-clause-lines : goal.returns-clause-lines
returns-clause-lines c log M line h = contains_kept M 1 log.lines line h
