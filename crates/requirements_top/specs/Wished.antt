-- What it means that a call ends well.
use Rattle.std.specs.Prelude.{◌≡◌, ℕ, List, Option, None}
use Rattle.ltl_io.specs.Outside.{Grows}
use Rattle.ltl_word.specs.declared.trace.Trace.{Trace}
use Rattle.ltl_word.specs.Trace.{IsTrace, IsOfKind}
use Rattle.ltl_word.specs.Holds.{Satisfies}
use Rattle.program_input.specs.Taking.{AreLeft}
use Rattle.requirement_document.specs.Values.{DocumentValue}
use Rattle.requirement_document.specs.Document.{IsDocument}
use Rattle.requirement_questions.specs.declared.leaving.Because.{Because}
use Rattle.requirement_answers.specs.declared.asking.Asking.{Asking}
use Rattle.requirement_answers.specs.declared.findings.Report.{Report}
use Rattle.requirement_answers.specs.declared.findings.Scope.{Scope}
use Rattle.requirement_answers.specs.Reports.{IsReport}
use Rattle.requirement_answers.specs.Laws.{IsAsWished}
use Rattle.requirement_certificate.specs.Chosen.{IsFirstBecause}
use Rattle.requirement_certificate.specs.Laws.{formula_for}
use Rattle.requirement_certificate.specs.Verified.{IsVerified}
use Rattle.requirements_top.specs.Words.{Request, Work, About, Certificate, Of, Asks}
use Rattle.requirements_top.specs.Naming.{IsNamed}

-- the words ask for a report on the whole document
abbrev pub AskAboutAll : List (List ℕ) → Type 0
AskAboutAll words = (request : Request) × Asks words (Of (About request)) × (request.only ≡ None)

-- what the source had left is a document, and all is as it wishes
pub record WasAsWished (rest : Option (List ℕ)) : Type 0 where
  pub bytes : List ℕ
  pub left : AreLeft rest bytes
  pub value : DocumentValue
  pub document : IsDocument bytes value
  pub wished : IsAsWished value

-- the words ask for the certificate about this name
abbrev pub AskForCertificate : List (List ℕ) → List ℕ → Type 0
AskForCertificate words name = (work : Work) × Asks words (Of (Certificate name work))

-- what the source had left is a document, and a text was printed that `black-refute --check` verifies for traces of its kind. The formula in front says that
-- the members hold and what is asked, as the first answer about the name has it that says that there is no trace; and no trace of the kind satisfies it
pub record WasCertified (name : List ℕ) (rest before after : Option (List ℕ)) : Type 0 where
  pub bytes : List ℕ
  pub left : AreLeft rest bytes
  pub value : DocumentValue
  pub document : IsDocument bytes value
  pub scope : Scope
  pub named : IsNamed value name scope
  pub report : Report
  pub right : IsReport value scope report
  pub asking : Asking
  pub because : Because
  pub first : IsFirstBecause report scope asking because
  pub text : List ℕ
  pub verified : IsVerified value.kind text
  pub says : verified.formula ≡ formula_for value asking because
  pub none : (t : Trace) → IsTrace t → IsOfKind t value.kind → ¬ (Satisfies t verified.formula)
  pub printed : Grows text before after
