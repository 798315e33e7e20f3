-- An answer has no status of a fault of the outside, nor of want of memory.
use Rattle.std.proofs.Common.{◌≡◌, ◌∙◌, ℕ, true, false, List, Option, refl, sym, ap}
use Rattle.report.specs.declared.status.Status.{Status}
use Rattle.report.specs.Status.{is_answer}
use Rattle.requirement_document.specs.declared.fault.Cause.{Cause}
use Rattle.requirement_document.specs.declared.fault.Cause.TheVariants as causes
use Rattle.requirement_document.specs.declared.document.Document.{Document}
use Rattle.requirement_document.specs.Values.{DocumentValue, document_in}
use Rattle.requirement_answers.specs.declared.findings.Report.{Report}
use Rattle.requirement_answers.specs.declared.findings.Scope.{Scope}
use Rattle.requirement_answers.specs.declared.judging.ReportVerdict.{ReportVerdict}
use Rattle.requirement_answers.specs.declared.judging.ReportVerdict.TheVariants as verdicts
use Rattle.requirement_answers.specs.Verdicts.{verdict}
use Rattle.requirements_top.specs.Words.{Request, Query, Letters, About, Certificate}
use Rattle.requirements_top.specs.Refusing.{cause_status}
use Rattle.requirements_top.specs.Certified.{IsJudged, certificate, beyond, no_certificate, IsCertified, judged, unnamed, too_long}
use Rattle.requirements_top.specs.Answer.{verdict_status, IsReported, IsPrinted, report, no_item, cells, IsOutput, refused, printed, IsAnswer, not_taken}
use Rattle.requirements_top.specs.Answer.{helped, taken}
use Rattle.requirements_top.specs.Run.{IsGiven}

cause_answers : (c : Cause) → is_answer (cause_status c) ≡ true
cause_answers causes.TooLong = refl
cause_answers other = refl

verdict_answers : (v : ReportVerdict) → is_answer (verdict_status v) ≡ true
verdict_answers verdicts.AsWished = refl
verdict_answers verdicts.NotAsWished = refl
verdict_answers verdicts.Undecided = refl

reported_answers : (d : Document) (request : Request) (status : Status) (text : List ℕ) → IsReported d request status text → is_answer status ≡ true
reported_answers d request status text (report scope r t asked is shows) = verdict_answers (verdict r)
reported_answers d request status text (no_item name only missing) = refl
reported_answers d request status text (cells scope behaviour item asked is) = refl

judged_answers : (d : DocumentValue) (name : List ℕ) (scope : Scope) (r : Report) (status : Status) (text : List ℕ) → IsJudged d name scope r status text
    → is_answer status ≡ true
judged_answers d name scope r status text (certificate asking b first verified) = refl
judged_answers d name scope r status text (beyond asking b first unverified) = refl
judged_answers d name scope r status text (no_certificate none) = refl

certified_answers : (d : DocumentValue) (name : List ℕ) (status : Status) (text : List ℕ) → IsCertified d name status text → is_answer status ≡ true
certified_answers d name status text (judged scope r s t named is h) = judged_answers d name scope r s t h
certified_answers d name status text (unnamed missing) = refl
certified_answers d name status text (too_long scope behaviour item named is) = refl

printed_answers : (d : Document) (query : Query) (status : Status) (text : List ℕ) → IsPrinted d query status text → is_answer status ≡ true
printed_answers d Letters status text is = ap is_answer is.0
printed_answers d (About request) status text is = reported_answers d request status text is
printed_answers d (Certificate name work) status text is = certified_answers (document_in d) name status text is

output_answers : (query : Query) (bytes : List ℕ) (status : Status) (text : List ℕ) → IsOutput query bytes status text → is_answer status ≡ true
output_answers query bytes status text (refused f h) = cause_answers f.cause
output_answers query bytes status text (printed d s t is h) = printed_answers d query s t h

answer_answers : (words : List (List ℕ)) (bytes : List ℕ) (status : Status) (text : List ℕ) → IsAnswer words bytes status text → is_answer status ≡ true
answer_answers words bytes status text (not_taken nothing) = refl
answer_answers words bytes status text (helped asks) = refl
answer_answers words bytes status text (taken query s t asks h) = output_answers query bytes s t h

-- what is given has another status than each of those
pub given_not : {words : List (List ℕ)} {rest : Option (List ℕ)} {status : Status} {text : List ℕ} (other : Status) → is_answer other ≡ false
    → IsGiven words rest status text → status ≡ other → ⊥
given_not {words} {rest} {status} {text} other none given same =
    let e : true ≡ false = sym (answer_answers words given.bytes status text given.lawful) ∙ (ap is_answer same ∙ none) in cc
