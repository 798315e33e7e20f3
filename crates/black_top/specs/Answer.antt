-- The answers, each with its status and its text.
use Rattle.std.specs.Prelude.{◌≡◌, ℕ, List, Option, Some, None, is_some, true, false, if◌then◌else◌, Bool}
use Rattle.std.specs.List.{list_all}
use Rattle.ltl_syntax.specs.Formula.{Formula}
use Rattle.ltl_syntax.specs.Print.{text_of as formula_text}
use Rattle.ltl_word.specs.declared.trace.Trace.{Trace}
use Rattle.cert_check.specs.declared.verdict.Verdict.{Verdict}
use Rattle.cert_check.specs.declared.verdict.Verdict.TheVariants as checks
use Rattle.batch_run.specs.declared.answer.LineAnswer.{LineAnswer}
use Rattle.batch_run.specs.Texts.{batch_text, is_clean}
use Rattle.report.specs.declared.fault.Fault.{Fault}
use Rattle.report.specs.declared.summary.Summary.{Summary}
use Rattle.report.specs.declared.summary.Shown.{Shown}
use Rattle.report.specs.declared.summary.Shown.TheVariants as verdicts
use Rattle.report.specs.Texts.{Proof, no_path_text, paths_hold_text, path_fails_text, sat_text, unsat_text, undecided_text, traced_text, checked_text}
use Rattle.report.specs.Texts.{refused_text, answers_text, depasted_text, lifted_text}
use Rattle.report.specs.Status.{fault_status}
use Rattle.report.specs.Summary.{summary_text}
use Rattle.report.specs.declared.status.Status.{Status}
use Rattle.report.specs.declared.status.Status.TheVariants as statuses

-- a refusal; SAT at a depth with a trace; UNSAT at a depth, with the texts of a core and of a certificate where they are shown; UNDECIDED up to a depth; HOLDS;
-- FAILS; VERIFIED or REJECTED; the summary of a demo; the answers to the lines of a batch; of a system NO PATH at a depth, HOLDS at a depth, with a
-- formula and its certificate where they are shown, and FAILS at a depth with a path; the answers of a monitor;
-- a formula without past operators, and with it a lifted trace
pub data Answer : Type 0 where
  refused : Fault → Answer
  sat : ℕ → Trace → Answer
  unsat : ℕ → Option (List ℕ) → Option (List ℕ) → Answer
  undecided : ℕ → Answer
  holds : Answer
  fails : Answer
  checked : Verdict → Answer
  summary : Summary → Answer
  batched : List LineAnswer → Answer
  no_path : ℕ → Answer
  paths_hold : ℕ → Option Proof → Answer
  path_fails : ℕ → Trace → Answer
  watched : List Bool → Answer
  depasted : Formula → Answer
  lifted : Formula → Trace → Answer

-- the status of a verdict that is shown without a trace
abbrev pub shown_status : Shown → Status
shown_status (verdicts.Sat depth) = statuses.Sat
shown_status (verdicts.Unsat depth) = statuses.Unsat
shown_status (verdicts.Undecided depth) = statuses.Undecided

-- the status of what is found of a certificate
abbrev pub checked_status : Verdict → Status
checked_status checks.Verified = statuses.Good
checked_status (checks.Rejected reason) = statuses.Negative

-- the status of a batch: whether each of its lines has a verdict
abbrev pub batch_status : List LineAnswer → Status
batch_status answers = if is_clean answers then statuses.Good else statuses.Text

-- no answer of a monitor is false
abbrev pub are_true : List Bool → Bool
are_true answers = list_all (λ b. b) answers

-- the status of the answers of a monitor: whether none is false
abbrev pub watched_status : List Bool → Status
watched_status answers = if are_true answers then statuses.Good else statuses.Negative

-- the status of an answer
abbrev pub status_of : Answer → Status
status_of (refused fault) = fault_status fault
status_of (sat depth trace) = statuses.Sat
status_of (unsat depth core certificate) = statuses.Unsat
status_of (undecided depth) = statuses.Undecided
status_of holds = statuses.Good
status_of fails = statuses.Negative
status_of (checked verdict) = checked_status verdict
status_of (summary s) = shown_status s.verdict
status_of (batched answers) = batch_status answers
status_of (no_path depth) = statuses.Unsat
status_of (paths_hold depth proof) = statuses.Good
status_of (path_fails depth trace) = statuses.Negative
status_of (watched answers) = watched_status answers
status_of (depasted f) = statuses.Good
status_of (lifted f trace) = statuses.Good

-- the text of an answer
abbrev pub text_of : Answer → List ℕ
text_of (refused fault) = refused_text fault
text_of (sat depth trace) = sat_text depth trace
text_of (unsat depth core certificate) = unsat_text depth core certificate
text_of (undecided depth) = undecided_text depth
text_of holds = traced_text true
text_of fails = traced_text false
text_of (checked verdict) = checked_text verdict
text_of (summary s) = summary_text s
text_of (batched answers) = batch_text answers
text_of (no_path depth) = no_path_text depth
text_of (paths_hold depth proof) = paths_hold_text depth proof
text_of (path_fails depth trace) = path_fails_text depth trace
text_of (watched answers) = answers_text answers
text_of (depasted f) = depasted_text (formula_text f)
text_of (lifted f trace) = lifted_text (formula_text f) trace

-- the formula that is printed with its certificate, where one is
abbrev pub shown_formula : Option Proof → Option (List ℕ)
shown_formula None = None
shown_formula (Some proof) = Some proof.formula

-- the answers are the same, but for the trace and the text of the certificate, which both have or neither has
abbrev pub AreAlike : Answer → Answer → Type 0
AreAlike (sat depth trace) (sat depth' trace') = depth ≡ depth'
AreAlike (unsat depth core certificate) (unsat depth' core' certificate') =
    (depth ≡ depth') × (core ≡ core') × (is_some certificate ≡ is_some certificate')
AreAlike (paths_hold depth proof) (paths_hold depth' proof') = (depth ≡ depth') × (shown_formula proof ≡ shown_formula proof')
AreAlike (path_fails depth trace) (path_fails depth' trace') = depth ≡ depth'
AreAlike one other = one ≡ other
