-- What the laws of certificates say.
use Rattle.std.specs.Prelude.{◌≤◌, ℕ, List, ◌++◌, length}
use Rattle.ltl_syntax.specs.Formula.{Formula}
use Rattle.ltl_syntax.specs.Size.{formula_size}
use Rattle.ltl_parser.specs.Text.{ReadsText}
use Rattle.claims.specs.Lawful.{IsLawful}
use Rattle.claim_check.specs.Data.{certificate_in}
use Rattle.claim_text.specs.Text.{IsWritable}
use Rattle.program_input.specs.Parts.{IsCut}
use Rattle.requirement_questions.specs.declared.leaving.Because.{Because}
use Rattle.requirement_questions.specs.Formulas.{all_of}
use Rattle.requirement_questions.specs.Members.{places}
use Rattle.requirement_document.specs.Values.{DocumentValue}
use Rattle.requirement_document.specs.Document.{IsDocument}
use Rattle.requirement_answers.specs.declared.asking.Asking.{Asking}
use Rattle.requirement_answers.specs.declared.findings.Report.{Report}
use Rattle.requirement_answers.specs.declared.findings.Scope.{Scope}
use Rattle.requirement_answers.specs.Items.{formulas_of}
use Rattle.requirement_answers.specs.Asking.{asked_of}
use Rattle.requirement_answers.specs.Reports.{IsReport}
use Rattle.requirement_certificate.specs.Chosen.{IsFirstBecause}
use Rattle.requirement_certificate.specs.Text.{formula_text, claims_text, certificate_text, HaveFormulas}
use Rattle.requirement_certificate.specs.Verified.{IsVerified}

-- the formula that says that the members hold, and what the question asks
abbrev pub formula_for : DocumentValue → Asking → Because → Formula
formula_for d asking b = all_of (formulas_of d (places b.members.items) ++ asked_of d asking)

-- the texts keep to the limits of what is read: the formula is not too long and not too large, and the certificate is one that has a text
pub record IsWithinLimits (d : DocumentValue) (asking : Asking) (b : Because) : Type 0 where
  pub short : length (formula_text b) ≤ 1048576
  pub few : formula_size (formula_for d asking b) ≤ 16384
  pub writable : IsWritable (certificate_in b.certificate)

-- the text of an answer is cut into that of its formula, which reads as the members and what is asked, and that of a certificate, which is lawful for it. So
-- it is verified, where both are within the limits
pub record IsTaken (d : DocumentValue) (asking : Asking) (b : Because) : Type 0 where
  pub cut : IsCut (certificate_text b) (formula_text b) (claims_text b)
  pub reads : ReadsText (formula_text b) (formula_for d asking b)
  pub lawful : IsLawful (formula_for d asking b) d.kind (certificate_in b.certificate)
  pub verified : IsWithinLimits d asking b → IsVerified d.kind (certificate_text b)

-- so it is for the first answer of a right report on a document
abbrev pub CertificatesAreTaken : Type 0
CertificatesAreTaken = (text : List ℕ) (d : DocumentValue) (scope : Scope) (r : Report) (asking : Asking) (b : Because)
    → IsDocument text d → IsReport d scope r → IsFirstBecause r scope asking b → IsTaken d asking b

-- each answer of a right report that says that there is no trace has its formula
abbrev pub ReportsHaveFormulas : Type 0
ReportsHaveFormulas = (d : DocumentValue) (scope : Scope) (r : Report) → IsReport d scope r → HaveFormulas r
