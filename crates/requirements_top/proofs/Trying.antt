-- What comes of a report where a certificate is asked for.
use Rattle.std.proofs.Common.{◌≡◌, ℕ, List, Result, Ok, Err, IfOk, inl, inr, sym, subst}
use Rattle.report.specs.declared.status.Status.{Status}
use Rattle.report.specs.declared.status.Status.TheVariants as statuses
use Rattle.requirement_document.specs.Values.{DocumentValue}
use Rattle.requirement_questions.specs.declared.leaving.Because.{Because}
use Rattle.requirement_answers.specs.declared.asking.Asking.{Asking}
use Rattle.requirement_answers.specs.declared.findings.Report.{Report}
use Rattle.requirement_answers.specs.declared.findings.Scope.{Scope}
use Rattle.requirement_answers.specs.Reports.{IsReport}
use Rattle.requirement_certificate.specs.Chosen.{IsFirstBecause}
use Rattle.requirement_certificate.specs.Text.{certificate_text}
use Rattle.requirements_top.specs.declared.output.Output.{Output}
use Rattle.requirements_top.specs.Texts.{beyond_text}
use Rattle.requirements_top.specs.Naming.{IsNamed}
use Rattle.requirements_top.specs.Certified.{IsJudged, certificate, beyond, IsCertified, judged}
use Rattle.requirements_top.specs.Inner.{Shows, ShowsTried}

-- an output that shows what comes
shows_so : (Comes : Status → List ℕ → Type 0) (status : Status) (text : List ℕ) (out : Output) → Comes status text → Shows out status text
    → Comes out.status out.text.items
shows_so Comes status text out comes shows = subst (λ s. Comes s out.text.items) (sym shows.same_status) (subst (Comes status) (sym shows.same_text) comes)

tried_so : (d : DocumentValue) (name : List ℕ) (scope : Scope) (r : Report) (asking : Asking) (b : Because) (out : Output) → IsFirstBecause r scope asking b
    → ShowsTried d.kind (certificate_text b) out → IsJudged d name scope r out.status out.text.items
tried_so d name scope r asking b out first (inl (verified, shows)) =
    shows_so (IsJudged d name scope r) statuses.Good (certificate_text b) out (certificate asking b first verified) shows
tried_so d name scope r asking b out first (inr (unverified, shows)) =
    shows_so (IsJudged d name scope r) statuses.Limit beyond_text out (beyond asking b first unverified) shows

-- the text of the first answer that says that there is no trace, tried
pub tried_judged : {E : Type 0} (d : DocumentValue) (name : List ℕ) (scope : Scope) (r : Report) (text : List ℕ) (o : Result Output E)
    → ((asking : Asking) × (b : Because) × IsFirstBecause r scope asking b × (text ≡ certificate_text b)) → IfOk o (ShowsTried d.kind text)
    → IfOk o (λ out. IsJudged d name scope r out.status out.text.items)
tried_judged d name scope r text (Ok out) (asking, b, first, same) tried = tried_so d name scope r asking b out first
    (subst (λ (t : List ℕ). ShowsTried d.kind t out) same tried)
tried_judged d name scope r text (Err e) found tried = tt

-- what comes of a report is printed about the name
pub judged_certified : {E : Type 0} (d : DocumentValue) (name : List ℕ) (scope : Scope) (r : Report) (o : Result Output E) → IsNamed d name scope
    → IsReport d scope r → IfOk o (λ out. IsJudged d name scope r out.status out.text.items) → IfOk o (λ out. IsCertified d name out.status out.text.items)
judged_certified d name scope r (Ok out) named is h = judged scope r out.status out.text.items named is h
judged_certified d name scope r (Err e) named is h = tt
