-- A text is verified exactly where it is cut, its formula is accepted, and its certificate is judged lawful: each of these is one at most.
use Rattle.std.proofs.Common.{◌≡◌, ◌↔◌, ℕ, Bool, true, false, List, Result, Ok, Err, IfOk, IsTrue, subst}
use Rattle.ltl_syntax.specs.declared.node.Kind.{Kind}
use Rattle.ltl_syntax.specs.Formula.{Formula}
use Rattle.ltl_parser.specs.Text.{IsAccepted}
use Rattle.claims.specs.Certificate.{Certificate}
use Rattle.claims.specs.Lawful.{IsLawful}
use Rattle.claim_text.specs.Text.{IsTextOf}
use Rattle.claim_text.specs.Laws.{TextsSayOne}
use Rattle.report.specs.declared.fault.Fault.{Fault}
use Rattle.program_input.specs.Parts.{HasNoSeparator, IsCut}
use Rattle.program_input.specs.Reading.{RefusesPart}
use Rattle.program_input.proofs.Cutting.{cut_one, cut_or_none}
use Rattle.program_input.proofs.OneText.{TextLaws, refused_not_accepted}
use Rattle.requirement_certificate.specs.Verified.{IsLawfulText, IsVerified}

-- what is false is so where there is none
pub none_so : {X : Type 0} → ¬ X → IsTrue false ↔ X
none_so not = (λ t. let e : false ≡ true = t in absurd (cc), λ x. absurd (not x))

-- the text is that of a lawful certificate where the one that it is read as is lawful
pub read_lawful : (kind : Kind) (f : Formula) (text : List ℕ) (c : Certificate) → TextsSayOne → IsTextOf text c → IsLawfulText kind f text ↔ IsLawful f kind c
read_lawful kind f text c one is = (
  λ h. subst (IsLawful f kind) (one text h.certificate c h.is is) h.lawful,
  λ lawful. record { certificate = c; is = is; lawful = lawful },
)

-- bytes that are not cut are not verified
pub uncut_not_verified : (kind : Kind) (bytes : List ℕ) → HasNoSeparator bytes → ¬ IsVerified kind bytes
uncut_not_verified kind bytes none h = cut_or_none bytes h.part h.second h.cut none

-- nor are those whose formula is refused
pub refused_not_verified : (kind : Kind) (bytes part second : List ℕ) (fault : Fault) → TextLaws → IsCut bytes part second → RefusesPart part fault
    → ¬ IsVerified kind bytes
refused_not_verified kind bytes part second fault laws cut refuses h =
    let same = cut_one bytes h.part h.second part second h.cut cut in
    refused_not_accepted part laws fault h.formula refuses (subst (λ p. IsAccepted p h.formula) same.0 h.accepted)

-- others are verified where the second part shows it of the formula that the first one is
pub verified_by_parts : (kind : Kind) (bytes part second : List ℕ) (f : Formula) → TextLaws → IsCut bytes part second → IsAccepted part f
    → IsLawfulText kind f second ↔ IsVerified kind bytes
verified_by_parts kind bytes part second f laws cut accepted = (
  λ shown. record { part = part; second = second; cut = cut; formula = f; accepted = accepted; shown = shown },
  λ h.
      let same = cut_one bytes h.part h.second part second h.cut cut in
      let read : IsAccepted part h.formula = subst (λ p. IsAccepted p h.formula) same.0 h.accepted in
      let tree : h.formula ≡ f = laws.one_formula part h.formula f read.reads accepted.reads in
      subst (λ s. IsLawfulText kind f s) same.1 (subst (λ g. IsLawfulText kind g h.second) tree h.shown),
)

also : {X Y Z : Type 0} → X ↔ Y → Y ↔ Z → X ↔ Z
also h k = (λ x. k.0 (h.0 x), λ z. h.1 (k.1 z))

pub also_where : {E X Y : Type 0} (r : Result Bool E) → X ↔ Y → IfOk r (λ t. IsTrue t ↔ X) → IfOk r (λ t. IsTrue t ↔ Y)
also_where (Ok t) same h = also h same
also_where (Err e) same h = tt
