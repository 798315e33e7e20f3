-- What is printed of a document and of words, with the status.
use Rattle.std.specs.Prelude.{◌≡◌, ℕ, List, Some}
use Rattle.report.specs.declared.status.Status.{Status}
use Rattle.report.specs.declared.status.Status.TheVariants as statuses
use Rattle.requirement_document.specs.declared.document.Document.{Document}
use Rattle.requirement_document.specs.declared.fault.DocumentFault.{DocumentFault}
use Rattle.requirement_document.specs.Values.{DocumentValue, document_in}
use Rattle.requirement_document.specs.Document.{IsDocument, HasFault}
use Rattle.requirement_answers.specs.declared.findings.Report.{Report}
use Rattle.requirement_answers.specs.declared.findings.Scope.{Scope}
use Rattle.requirement_answers.specs.declared.judging.ReportVerdict.{ReportVerdict}
use Rattle.requirement_answers.specs.declared.judging.ReportVerdict.TheVariants as verdicts
use Rattle.requirement_answers.specs.declared.findings.ReportRefused.TheVariants as refusals
use Rattle.requirement_answers.specs.Reports.{IsReport, IsRefused}
use Rattle.requirement_answers.specs.Verdicts.{verdict}
use Rattle.requirement_report.specs.Text.{IsText}
use Rattle.requirement_report.specs.Letters.{letters_text}
use Rattle.requirement_json.specs.Whole.{json_text}
use Rattle.requirement_page.specs.Page.{IsPage}
use Rattle.requirements_top.specs.Words.{Face, Text, Json, Page, Request, Query, Letters, About, Certificate, Help, Of, Asks, AskNothing}
use Rattle.requirements_top.specs.Texts.{usage_text, help_text, no_item_text, cells_text}
use Rattle.requirements_top.specs.Refusing.{refusal_text, refusal_status}
use Rattle.requirements_top.specs.Naming.{HasNoName, IsAskedAbout}
use Rattle.requirements_top.specs.Certified.{IsCertified}

-- the status of a verdict
abbrev pub verdict_status : ReportVerdict → Status
verdict_status verdicts.AsWished = statuses.Good
verdict_status verdicts.NotAsWished = statuses.Negative
verdict_status verdicts.Undecided = statuses.Undecided

-- the report in this form
abbrev pub IsFaceOf : Face → DocumentValue → Report → Scope → ℕ → List ℕ → Type 0
IsFaceOf Text d r scope steps text = IsText d r scope steps text
IsFaceOf Json d r scope steps text = text ≡ json_text d r steps
IsFaceOf Page d r scope steps text = IsPage d r scope steps text

-- what is printed where a report is asked for: the report in its form, with the status of its verdict; that nothing has the name that is asked about; or
-- that a behaviour is too long for an item
pub data IsReported (d : Document) (request : Request) : Status → List ℕ → Type 0 where
  report : (scope : Scope) (r : Report) (text : List ℕ) → IsAskedAbout (document_in d) request.only scope → IsReport (document_in d) scope r
      → IsFaceOf request.face (document_in d) r scope request.work.steps text → IsReported d request (verdict_status (verdict r)) text
  no_item : (name : List ℕ) → request.only ≡ Some name → HasNoName (document_in d) name → IsReported d request statuses.Usage (no_item_text name)
  cells : (scope : Scope) (behaviour item : ℕ) → IsAskedAbout (document_in d) request.only scope
      → IsRefused (document_in d) scope (refusals.Cells behaviour item)
      → IsReported d request statuses.Limit (cells_text (document_in d) behaviour)

-- what is printed of a document: its letters, what is printed where a report is asked for, or where a certificate is
abbrev pub IsPrinted : Document → Query → Status → List ℕ → Type 0
IsPrinted d Letters status text = (status ≡ statuses.Good) × (text ≡ letters_text (document_in d))
IsPrinted d (About request) status text = IsReported d request status text
IsPrinted d (Certificate name work) status text = IsCertified (document_in d) name status text

-- what is printed of an input where this is asked of it: the lines of its fault, or what is printed of the document that it is
pub data IsOutput (query : Query) (bytes : List ℕ) : Status → List ℕ → Type 0 where
  refused : (f : DocumentFault) → HasFault bytes f → IsOutput query bytes (refusal_status f) (refusal_text f)
  printed : (d : Document) (status : Status) (text : List ℕ) → IsDocument bytes (document_in d) → IsPrinted d query status text
      → IsOutput query bytes status text

-- what is printed of words and an input: the usage where the words ask for nothing, the help, or what is asked of the input
pub data IsAnswer (words : List (List ℕ)) (bytes : List ℕ) : Status → List ℕ → Type 0 where
  not_taken : AskNothing words → IsAnswer words bytes statuses.Usage usage_text
  helped : Asks words Help → IsAnswer words bytes statuses.Good help_text
  taken : (query : Query) (status : Status) (text : List ℕ) → Asks words (Of query) → IsOutput query bytes status text → IsAnswer words bytes status text
