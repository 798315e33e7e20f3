-- Where a certificate ends well, its text is verified, and no trace of the kind satisfies the formula in front.
use Rattle.std.proofs.Common.{◌≡◌, ◌∙◌, ℕ, true, false, List, Option, Some, None, refl, sym, subst}
use Rattle.ltl_io.specs.Outside.{Grows}
use Rattle.ltl_syntax.specs.Formula.{Formula}
use Rattle.ltl_parser.specs.Text.{ReadsText}
use Rattle.claims.specs.Laws.{LawfulHasNoTrace}
use Rattle.report.specs.declared.status.Status.{Status}
use Rattle.report.specs.declared.status.Status.TheVariants as statuses
use Rattle.program_input.proofs.Cutting.{cut_one}
use Rattle.requirement_document.specs.Values.{DocumentValue, document_in}
use Rattle.requirement_document.specs.Document.{IsDocument}
use Rattle.requirement_questions.specs.declared.leaving.Because.{Because}
use Rattle.requirement_answers.specs.declared.asking.Asking.{Asking}
use Rattle.requirement_answers.specs.declared.findings.Report.{Report}
use Rattle.requirement_answers.specs.declared.findings.Scope.{Scope}
use Rattle.requirement_answers.specs.Reports.{IsReport}
use Rattle.requirement_certificate.specs.Chosen.{IsFirstBecause}
use Rattle.requirement_certificate.specs.Text.{formula_text, claims_text, certificate_text}
use Rattle.requirement_certificate.specs.Verified.{IsVerified}
use Rattle.requirement_certificate.specs.Laws.{CertificatesAreTaken, formula_for}
use Rattle.requirements_top.specs.Words.{Letters, About, Certificate, Work, Of}
use Rattle.requirements_top.specs.Naming.{IsNamed}
use Rattle.requirements_top.specs.Certified.{IsJudged, certificate, beyond, no_certificate, IsCertified, judged, unnamed, too_long}
use Rattle.requirements_top.specs.Answer.{IsOutput, refused, printed, IsAnswer, not_taken, helped, taken}
use Rattle.requirements_top.specs.Run.{IsGiven}
use Rattle.requirements_top.specs.Wished.{AskForCertificate, WasCertified}
use Rattle.requirements_top.proofs.Wishing.{fault_status}

-- what the laws say of texts and certificates
pub record CertificateLaws : Type 0 where
  pub taken : CertificatesAreTaken
  pub no_trace : LawfulHasNoTrace
  pub one_formula : (text : List ℕ) (f g : Formula) → ReadsText text f → ReadsText text g → f ≡ g

-- the formula of a verified text of an answer is that of its members and of what is asked
formula_said : (bytes : List ℕ) (d : DocumentValue) (scope : Scope) (r : Report) (asking : Asking) (b : Because) → CertificateLaws → IsDocument bytes d
    → IsReport d scope r → IsFirstBecause r scope asking b → (v : IsVerified d.kind (certificate_text b)) → v.formula ≡ formula_for d asking b
formula_said bytes d scope r asking b laws document is first v =
    let taken = laws.taken bytes d scope r asking b document is first in
    let same = cut_one (certificate_text b) v.part v.second (formula_text b) (claims_text b) v.cut taken.cut in
    laws.one_formula (formula_text b) v.formula (formula_for d asking b) (subst (λ p. ReadsText p v.formula) same.0 v.accepted.reads) taken.reads

-- a certificate of a document was found
record IsFound (name : List ℕ) (d : DocumentValue) (text : List ℕ) : Type 0 where
  pub scope : Scope
  pub named : IsNamed d name scope
  pub report : Report
  pub right : IsReport d scope report
  pub asking : Asking
  pub because : Because
  pub first : IsFirstBecause report scope asking because
  pub same : text ≡ certificate_text because
  pub verified : IsVerified d.kind (certificate_text because)

judged_found : (d : DocumentValue) (name : List ℕ) (scope : Scope) (r : Report) (status : Status) (text : List ℕ) → status ≡ statuses.Good
    → IsNamed d name scope → IsReport d scope r → IsJudged d name scope r status text → IsFound name d text
judged_found d name scope r status text good named is (certificate asking b first verified) = record {
  scope = scope;
  named = named;
  report = r;
  right = is;
  asking = asking;
  because = b;
  first = first;
  same = refl;
  verified = verified;
}
judged_found d name scope r status text good named is (beyond asking b first unverified) = absurd (cc)
judged_found d name scope r status text good named is (no_certificate none) = absurd (cc)

certified_found : (d : DocumentValue) (name : List ℕ) (status : Status) (text : List ℕ) → status ≡ statuses.Good → IsCertified d name status text
    → IsFound name d text
certified_found d name status text good (judged scope r s t named is h) = judged_found d name scope r s t good named is h
certified_found d name status text good (unnamed missing) = absurd (cc)
certified_found d name status text good (too_long scope behaviour item named is) = absurd (cc)

output_found : (name : List ℕ) (work : Work) (bytes : List ℕ) (status : Status) (text : List ℕ) → status ≡ statuses.Good
    → IsOutput (Certificate name work) bytes status text → (d : DocumentValue) × IsDocument bytes d × IsFound name d text
output_found name work bytes status text good (refused f h) = absurd (fault_status f.cause good)
output_found name work bytes status text good (printed d s t is h) = (document_in d, is, certified_found (document_in d) name s t good h)

answer_found : (words : List (List ℕ)) (name : List ℕ) (bytes : List ℕ) (status : Status) (text : List ℕ) → AskForCertificate words name
    → status ≡ statuses.Good → IsAnswer words bytes status text → (d : DocumentValue) × IsDocument bytes d × IsFound name d text
answer_found words name bytes status text (work, asks) good (not_taken nothing) = absurd (nothing (Of (Certificate name work)) asks)
answer_found words name bytes status text (work, asks) good (helped help) = let e : true ≡ false = sym help.1.0 ∙ asks.1.0 in absurd (cc)
answer_found words name bytes status text (work, asks) good (taken Letters s t letters h) = let e : true ≡ false = sym letters.1.1 ∙ asks.1.1 in absurd (cc)
answer_found words name bytes status text (work, asks) good (taken (About request) s t about h) = let e : None ≡ Some name =
    sym about.1.2.cert ∙ asks.1.2.cert in absurd (cc)
answer_found words name bytes status text (work, asks) good (taken (Certificate other also) s t certifies h) =
    let both : Some other ≡ Some name = sym certifies.1.2.cert ∙ asks.1.2.cert in
    let same : other ≡ name = cc in
    output_found name also bytes s t good (subst (λ (n : List ℕ). IsOutput (Certificate n also) bytes s t) same h)

pub was_certified : {words : List (List ℕ)} {rest before after : Option (List ℕ)} {status : Status} {text shown : List ℕ} (name : List ℕ)
    → CertificateLaws → IsGiven words rest status text → shown ≡ text → Grows shown before after → status ≡ statuses.Good → AskForCertificate words name
    → WasCertified name rest before after
was_certified {words} {rest} {before} {after} {status} {text} {shown} name laws given is grows good asks =
    let (d, document, found) = answer_found words name given.bytes status text asks good given.lawful in
    let verified = found.verified in
    record {
      bytes = given.bytes;
      left = given.left;
      value = d;
      document = document;
      scope = found.scope;
      named = found.named;
      report = found.report;
      right = found.right;
      asking = found.asking;
      because = found.because;
      first = found.first;
      text = certificate_text found.because;
      verified = verified;
      says = formula_said given.bytes d found.scope found.report found.asking found.because laws document found.right found.first verified;
      none = λ t trace of. laws.no_trace verified.formula d.kind verified.shown.certificate verified.shown.lawful t trace of;
      printed = subst (λ (bytes : List ℕ). Grows bytes before after) (is ∙ found.same) grows;
    }
