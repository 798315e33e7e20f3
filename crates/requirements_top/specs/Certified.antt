-- What is printed where a certificate is asked for.
use Rattle.std.specs.Prelude.{ℕ, List}
use Rattle.report.specs.declared.status.Status.{Status}
use Rattle.report.specs.declared.status.Status.TheVariants as statuses
use Rattle.requirement_document.specs.Values.{DocumentValue}
use Rattle.requirement_questions.specs.declared.leaving.Because.{Because}
use Rattle.requirement_answers.specs.declared.asking.Asking.{Asking}
use Rattle.requirement_answers.specs.declared.findings.Report.{Report}
use Rattle.requirement_answers.specs.declared.findings.Scope.{Scope}
use Rattle.requirement_answers.specs.declared.findings.ReportRefused.TheVariants as refusals
use Rattle.requirement_answers.specs.Reports.{IsReport, IsRefused}
use Rattle.requirement_certificate.specs.Chosen.{IsFirstBecause, HasNoBecause}
use Rattle.requirement_certificate.specs.Text.{certificate_text}
use Rattle.requirement_certificate.specs.Verified.{IsVerified}
use Rattle.requirements_top.specs.Texts.{no_item_text, cells_text, no_certificate_text, beyond_text}
use Rattle.requirements_top.specs.Naming.{HasNoName, IsNamed}

-- the certificate of the first answer that says that there is no trace, where `black-refute --check` verifies its text; that it does not, since it is beyond
-- a limit of texts; or that no answer says so
pub data IsJudged (d : DocumentValue) (name : List ℕ) (scope : Scope) (r : Report) : Status → List ℕ → Type 0 where
  certificate : (asking : Asking) (b : Because) → IsFirstBecause r scope asking b → IsVerified d.kind (certificate_text b)
      → IsJudged d name scope r statuses.Good (certificate_text b)
  beyond : (asking : Asking) (b : Because) → IsFirstBecause r scope asking b → ¬ (IsVerified d.kind (certificate_text b))
      → IsJudged d name scope r statuses.Limit beyond_text
  no_certificate : HasNoBecause r scope → IsJudged d name scope r statuses.Negative (no_certificate_text name)

-- what is printed about a name: what comes of the report on what has it; that nothing has it; or that a behaviour is too long for an item
pub data IsCertified (d : DocumentValue) (name : List ℕ) : Status → List ℕ → Type 0 where
  judged : (scope : Scope) (r : Report) (status : Status) (text : List ℕ) → IsNamed d name scope → IsReport d scope r → IsJudged d name scope r status text
      → IsCertified d name status text
  unnamed : HasNoName d name → IsCertified d name statuses.Usage (no_item_text name)
  too_long : (scope : Scope) (behaviour item : ℕ) → IsNamed d name scope → IsRefused d scope (refusals.Cells behaviour item)
      → IsCertified d name statuses.Limit (cells_text d behaviour)
