-- An output that shows what comes.
use Rattle.std.proofs.Common.{◌≡◌, ℕ, List, Result, Ok, Err, IfOk, sym, subst}
use Rattle.report.specs.declared.status.Status.{Status}
use Rattle.report.specs.declared.status.Status.TheVariants as statuses
use Rattle.requirement_document.specs.declared.document.Document.{Document}
use Rattle.requirement_document.specs.Values.{document_in}
use Rattle.requirement_answers.specs.declared.findings.Report.{Report}
use Rattle.requirement_answers.specs.declared.findings.Scope.{Scope}
use Rattle.requirement_answers.specs.Reports.{IsReport}
use Rattle.requirement_answers.specs.Verdicts.{verdict}
use Rattle.requirement_report.specs.Letters.{letters_text}
use Rattle.requirements_top.specs.Words.{Request, Letters}
use Rattle.requirements_top.specs.Naming.{IsAskedAbout}
use Rattle.requirements_top.specs.Answer.{IsFaceOf, IsReported, IsPrinted, report, verdict_status}
use Rattle.requirements_top.specs.declared.output.Output.{Output}
use Rattle.requirements_top.specs.Inner.{Shows}

pub shown : {E : Type 0} (Comes : Status → List ℕ → Type 0) (status : Status) (text : List ℕ) (r : Result Output E) → Comes status text
    → IfOk r (λ out. Shows out status text)
    → IfOk r (λ out. Comes out.status out.text.items)
shown Comes status text (Ok out) comes shows = subst (λ s. Comes s out.text.items) (sym shows.same_status) (subst (Comes status) (sym shows.same_text) comes)
shown Comes status text (Err e) comes shows = tt

-- a report that is shown is printed
pub reported : {E : Type 0} (d : Document) (request : Request) (scope : Scope) (r : Report) (o : Result Output E)
    → IsAskedAbout (document_in d) request.only scope → IsReport (document_in d) scope r
    → IfOk o (λ out. (out.status ≡ verdict_status (verdict r)) × IsFaceOf request.face (document_in d) r scope request.work.steps out.text.items)
    → IfOk o (λ out. IsReported d request out.status out.text.items)
reported d request scope r (Ok out) asked is (status, text) = subst (λ s. IsReported d request s out.text.items) (sym status)
    (report scope r out.text.items asked is text)
reported d request scope r (Err e) asked is shows = tt

-- the letters that are shown are printed
pub letters_printed : {E : Type 0} (d : Document) (o : Result Output E) → IfOk o (λ out. Shows out statuses.Good (letters_text (document_in d)))
    → IfOk o (λ out. IsPrinted d Letters out.status out.text.items)
letters_printed d (Ok out) shows = (shows.same_status, shows.same_text)
letters_printed d (Err e) shows = tt
