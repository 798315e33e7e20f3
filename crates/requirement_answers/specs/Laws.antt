-- What the laws of reports say.
use Rattle.std.specs.Prelude.{◌≡◌, ℕ, ◌<◌, [], ◌∷◌, length, Contains}
use Rattle.ltl_word.specs.declared.trace.Trace.{Trace}
use Rattle.ltl_word.specs.Holds.{Satisfies}
use Rattle.requirement_document.specs.declared.document.Role.TheVariants as roles
use Rattle.requirement_document.specs.Values.{DocumentValue}
use Rattle.requirement_answers.specs.declared.findings.Report.{Report}
use Rattle.requirement_answers.specs.declared.findings.Scope.TheVariants as scopes
use Rattle.requirement_answers.specs.declared.judging.ReportVerdict.TheVariants as verdicts
use Rattle.requirement_answers.specs.Items.{numbers_of, role_of, formula_of, given_numbers}
use Rattle.requirement_answers.specs.Answers.{CanBe}
use Rattle.requirement_answers.specs.Checks.{trace_of}
use Rattle.requirement_answers.specs.Reports.{IsReport}
use Rattle.requirement_answers.specs.Verdicts.{verdict}

-- what is assumed and required can be met together; each item that is to stay possible can be met with it; each one that is to follow holds on each trace
-- of the kind that meets it; and each behaviour keeps it
pub record IsAsWished (d : DocumentValue) : Type 0 where
  pub met : (t : Trace) × CanBe d (given_numbers d) [] t
  pub possible : (n : ℕ) → Contains (numbers_of d) n → role_of d n ≡ roles.Allow → (t : Trace) × CanBe d (given_numbers d) (formula_of d n ∷ []) t
  pub follows : (n : ℕ) → Contains (numbers_of d) n → role_of d n ≡ roles.Ensure → (t : Trace) → CanBe d (given_numbers d) [] t → Satisfies t (formula_of d n)
  pub kept : (b n : ℕ) → b < length d.behaviours → Contains (given_numbers d) n → Satisfies (trace_of d b) (formula_of d n)

-- where the verdict on the whole document says so
abbrev pub VerdictIsRight : Type 0
VerdictIsRight = (d : DocumentValue) (r : Report) → IsReport d scopes.All r → verdict r ≡ verdicts.AsWished → IsAsWished d
