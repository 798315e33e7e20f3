-- An output that shows an answer which comes.
use Rattle.std.proofs.Common.{◌≡◌, ◌∙◌, ◌++◌, ◌-◌, ℕ, true, List, [], length, take, drop, Result, Ok, Err, IfOk, OnOk, refl, ap, ap₂, subst, sym, arith}
use Rattle.std.proofs.Math.Seq.{drop-append_seam, take-length}
use Rattle.std.proofs.lemmas.List.{append-nil, length-append}
use Rattle.std.specs.Prelude.{codes}
use Rattle.ltl_syntax.specs.declared.node.Kind.{Kind}
use Rattle.ltl_syntax.specs.Formula.{Formula}
use Rattle.claims.specs.Certificate.{Certificate}
use Rattle.claims.specs.Lawful.{IsLawful}
use Rattle.claim_text.specs.Text.{IsTextOf}
use Rattle.report.specs.Texts.{line}
use Rattle.refute_top.specs.declared.output.Output.{Output}
use Rattle.refute_top.specs.Answer.{Answer, certified}
use Rattle.refute_top.specs.Refuting.{IsFound, certified_so}
use Rattle.refute_top.specs.Inner.{Shows}

pub shown : {E : Type 0} (Comes : Answer → Type 0) (answer : Answer) (r : Result Output E) → Comes answer → IfOk r (λ out. Shows out answer)
    → IfOk r (λ out. (a : Answer) × Comes a × Shows out a)
shown Comes answer (Ok out) given shows = (answer, given, shows)
shown Comes answer (Err e) given shows = tt

pub shown_as : {E : Type 0} (Comes Also : Answer → Type 0) (r : Result Output E) → ((a : Answer) → Comes a → Also a)
    → IfOk r (λ out. (a : Answer) × Comes a × Shows out a) → IfOk r (λ out. (a : Answer) × Also a × Shows out a)
shown_as Comes Also (Ok out) more (a, comes, shows) = (a, more a comes, shows)
shown_as Comes Also (Err e) more h = tt

-- the same where it comes by what an output says that is there
pub shown_where : {E : Type 0} (Comes : Answer → Type 0) (Fact : Type 0) (answer : Answer) (r : Result Output E) → (Fact → Comes answer) → OnOk r Fact
    → IfOk r (λ out. Shows out answer)
    → IfOk r (λ out. (a : Answer) × Comes a × Shows out a)
shown_where Comes Fact answer (Ok out) more fact shows = (answer, more fact, shows)
shown_where Comes Fact answer (Err e) more fact shows = tt

-- what stands behind the first bytes
behind : (first more whole : List ℕ) (start : ℕ) → start ≡ length first → whole ≡ first ++ more → take (length whole - start) (drop start whole) ≡ more
behind first more whole start at is =
    let rest : drop start whole ≡ more = ap₂ drop at is ∙ drop-append_seam first more in
    let size : length whole - start ≡ length more = omega (arith, at, ap length is ∙ length-append first more) in
    ap₂ take size rest ∙ take-length more

-- UNSAT with the text of a lawful certificate behind it
pub certified_shown : (kind : Kind) (f : Formula) (c : Certificate) (begun out : Output) (more whole : List ℕ) (start : ℕ) → Shows begun (certified [])
    → out.status ≡ begun.status → start ≡ length begun.text.items
    → out.text.items ≡ begun.text.items ++ more → whole ≡ out.text.items → IsLawful f kind c → IsTextOf (take (length whole - start) (drop start whole)) c
    → (a : Answer) × IsFound kind true f a × Shows out a
certified_shown kind f c begun out more whole start shows status at is same lawful spelled = (
  certified more,
  certified_so c more refl lawful (subst (λ (bytes : List ℕ). IsTextOf bytes c) (behind begun.text.items more whole start at (same ∙ is)) spelled),
  record { status = status ∙ shows.status; text = is ∙ ap (λ x. x ++ more) (shows.text ∙ append-nil (line (codes "UNSAT"))) },
)
