-- Where a call ends well, the document is as it wishes.
use Rattle.std.proofs.Common.{◌≡◌, ◌∙◌, ℕ, true, false, List, Option, Some, None, refl, sym, subst}
use Rattle.report.specs.declared.status.Status.{Status}
use Rattle.report.specs.declared.status.Status.TheVariants as statuses
use Rattle.requirement_document.specs.declared.fault.Cause.{Cause}
use Rattle.requirement_document.specs.declared.fault.Cause.TheVariants as causes
use Rattle.requirement_document.specs.declared.document.Document.{Document}
use Rattle.requirement_document.specs.Values.{DocumentValue, document_in}
use Rattle.requirement_document.specs.Document.{IsDocument}
use Rattle.requirement_answers.specs.declared.findings.Scope.{Scope}
use Rattle.requirement_answers.specs.declared.findings.Scope.TheVariants as scopes
use Rattle.requirement_answers.specs.declared.judging.ReportVerdict.{ReportVerdict}
use Rattle.requirement_answers.specs.declared.judging.ReportVerdict.TheVariants as verdicts
use Rattle.requirement_answers.specs.Verdicts.{verdict}
use Rattle.requirement_answers.specs.Reports.{IsReport}
use Rattle.requirement_answers.specs.Laws.{IsAsWished, VerdictIsRight}
use Rattle.requirements_top.specs.Words.{Request, Letters, About, Certificate, Of}
use Rattle.requirements_top.specs.Naming.{IsAskedAbout}
use Rattle.requirements_top.specs.Refusing.{cause_status}
use Rattle.requirements_top.specs.Answer.{verdict_status, IsReported, report, no_item, cells, IsOutput, refused, printed, IsAnswer, not_taken, helped, taken}
use Rattle.requirements_top.specs.Run.{IsGiven}
use Rattle.requirements_top.specs.Wished.{AskAboutAll, WasAsWished}

-- a refusal does not end well
pub fault_status : (c : Cause) → cause_status c ≡ statuses.Good → ⊥
fault_status causes.TooLong e = cc
fault_status other e = cc

good_verdict : (v : ReportVerdict) → verdict_status v ≡ statuses.Good → v ≡ verdicts.AsWished
good_verdict verdicts.AsWished e = refl
good_verdict verdicts.NotAsWished e = absurd (cc)
good_verdict verdicts.Undecided e = absurd (cc)

all_asked : (d : DocumentValue) (only : Option (List ℕ)) (scope : Scope) → only ≡ None → IsAskedAbout d only scope → scope ≡ scopes.All
all_asked d None scope none is = is
all_asked d (Some name) scope none is = absurd (cc)

report_wished : (d : Document) (request : Request) (status : Status) (text : List ℕ) → VerdictIsRight → request.only ≡ None → status ≡ statuses.Good
    → IsReported d request status text → IsAsWished (document_in d)
report_wished d request status text law none good (report scope r t asked is shows) =
    law (document_in d) r (subst (λ s. IsReport (document_in d) s r) (all_asked (document_in d) request.only scope none asked) is)
    (good_verdict (verdict r) good)
report_wished d request status text law none good (no_item name only missing) = absurd (cc)
report_wished d request status text law none good (cells scope behaviour item asked is) = absurd (cc)

output_wished : (request : Request) (bytes : List ℕ) (status : Status) (text : List ℕ) → VerdictIsRight → request.only ≡ None → status ≡ statuses.Good
    → IsOutput (About request) bytes status text
    → (d : DocumentValue) × IsDocument bytes d × IsAsWished d
output_wished request bytes status text law none good (refused f h) = absurd (fault_status f.cause good)
output_wished request bytes status text law none good (printed d s t is h) = (document_in d, is, report_wished d request s t law none good h)

answer_wished : (words : List (List ℕ)) (bytes : List ℕ) (status : Status) (text : List ℕ) → VerdictIsRight → AskAboutAll words → status ≡ statuses.Good
    → IsAnswer words bytes status text
    → (d : DocumentValue) × IsDocument bytes d × IsAsWished d
answer_wished words bytes status text law (request, asks, none) good (not_taken nothing) = absurd (nothing (Of (About request)) asks)
answer_wished words bytes status text law (request, asks, none) good (helped help) = let e : true ≡ false = sym help.1.0 ∙ asks.1.0 in absurd (cc)
answer_wished words bytes status text law (request, asks, none) good (taken Letters s t letters h) = let e : true ≡ false = sym letters.1.1
    ∙ asks.1.1 in absurd (cc)
answer_wished words bytes status text law (request, asks, none) good (taken (About other) s t also h) =
    output_wished other bytes s t law (sym also.1.2.only ∙ (asks.1.2.only ∙ none)) good h
answer_wished words bytes status text law (request, asks, none) good (taken (Certificate name work) s t also h) = let e : None ≡ Some name =
    sym asks.1.2.cert ∙ also.1.2.cert in absurd (cc)

pub was_as_wished : {words : List (List ℕ)} {rest : Option (List ℕ)} {status : Status} {text : List ℕ} → VerdictIsRight → IsGiven words rest status text
    → status ≡ statuses.Good → AskAboutAll words → WasAsWished rest
was_as_wished {words} {rest} {status} {text} law given good all =
    let (d, document, wished) = answer_wished words given.bytes status text law all good given.lawful in
    record { bytes = given.bytes; left = given.left; value = d; document = document; wished = wished }
