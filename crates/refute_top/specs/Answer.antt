-- The answers, each with its status and its text.
use Rattle.std.specs.Prelude.{ℕ, List}
use Rattle.ltl_word.specs.declared.trace.Trace.{Trace}
use Rattle.claim_check.specs.declared.reason.ClaimVerdict.{ClaimVerdict}
use Rattle.claim_check.specs.declared.reason.ClaimVerdict.TheVariants as verdicts
use Rattle.command_words.specs.Usage.{refutation_usage_text}
use Rattle.report.specs.declared.fault.Fault.{Fault}
use Rattle.report.specs.declared.status.Status.{Status}
use Rattle.report.specs.declared.status.Status.TheVariants as statuses
use Rattle.report.specs.Status.{fault_status}
use Rattle.report.specs.Texts.{refused_text}
use Rattle.refute_top.specs.Texts.{sat_text, unsat_text, undecided_text, verdict_text}

-- a refusal of the input; the usage; SAT with a trace; UNSAT with the lines of invariants, or with the text of a certificate; UNDECIDED; what is found
-- of a certificate
pub data Answer : Type 0 where
  refused : Fault → Answer
  usage : Answer
  sat : Trace → Answer
  unsat : List ℕ → Answer
  certified : List ℕ → Answer
  undecided : Answer
  checked : ClaimVerdict → Answer

-- the status of what is found of a certificate
abbrev pub checked_status : ClaimVerdict → Status
checked_status verdicts.Verified = statuses.Good
checked_status (verdicts.Refused reason) = statuses.Negative

-- the status of an answer
abbrev pub status_of : Answer → Status
status_of (refused fault) = fault_status fault
status_of usage = statuses.Usage
status_of (sat trace) = statuses.Sat
status_of (unsat lines) = statuses.Unsat
status_of (certified text) = statuses.Unsat
status_of undecided = statuses.Undecided
status_of (checked verdict) = checked_status verdict

-- the text of an answer
abbrev pub text_of : Answer → List ℕ
text_of (refused fault) = refused_text fault
text_of usage = refutation_usage_text
text_of (sat trace) = sat_text trace
text_of (unsat lines) = unsat_text lines
text_of (certified text) = unsat_text text
text_of undecided = undecided_text
text_of (checked verdict) = verdict_text verdict
