-- An input of two parts: its answer is one, and an answer that is no refusal comes of both parts.
use Rattle.std.proofs.Common.{◌≡◌, ◌∙◌, ℕ, false, List, refl, sym, ap, subst}
use Rattle.ltl_syntax.specs.Formula.{Formula}
use Rattle.ltl_parser.specs.Text.{IsAccepted}
use Rattle.report.specs.declared.fault.Fault.{Fault}
use Rattle.report.specs.declared.fault.Fault.TheVariants as faults
use Rattle.report.specs.declared.status.Status.{Status}
use Rattle.program_input.specs.Parts.{IsCut}
use Rattle.program_input.specs.Reading.{RefusesPart, IsParted, uncut, unread, accepted}
use Rattle.program_input.proofs.Cutting.{cut_one, cut_or_none}
use Rattle.program_input.proofs.OneText.{TextLaws, one_fault, refused_not_accepted}
use Rattle.report.specs.Status.{fault_status}
use Rattle.report.proofs.Statuses.{is_refusal, not_refused}

-- what is claimed of a formula and a second part has one answer
abbrev pub HasOne : (Answer : Type 0) → (Formula → List ℕ → Answer → Type 0) → Type 0
HasOne Answer Claim = (f : Formula) (text : List ℕ) (a b : Answer) → Claim f text a → Claim f text b → a ≡ b

pub one_parted : (Answer : Type 0) (refused : Fault → Answer) (Claim : Formula → List ℕ → Answer → Type 0) → HasOne Answer Claim → (bytes : List ℕ)
    → TextLaws → (a b : Answer)
    → IsParted Answer refused Claim bytes a → IsParted Answer refused Claim bytes b → a ≡ b
one_parted Answer refused Claim one bytes laws a b (uncut n) (uncut m) = refl
one_parted Answer refused Claim one bytes laws a b (uncut n) (unread part second fault cut h) = absurd (cut_or_none bytes part second cut n)
one_parted Answer refused Claim one bytes laws a b (uncut n) (accepted part second f answer cut read h) = absurd (cut_or_none bytes part second cut n)
one_parted Answer refused Claim one bytes laws a b (unread part second fault cut h) (uncut m) = absurd (cut_or_none bytes part second cut m)
one_parted Answer refused Claim one bytes laws a b (accepted part second f answer cut read h) (uncut m) = absurd (cut_or_none bytes part second cut m)
one_parted Answer refused Claim one bytes laws a b (unread part second fault cut h) (unread part' second' fault' cut' h') =
    let same = cut_one bytes part second part' second' cut cut' in
    ap refused (one_fault part laws fault fault' h (subst (λ p. RefusesPart p fault') (sym same.0) h'))
one_parted Answer refused Claim one bytes laws a b (unread part second fault cut h) (accepted part' second' f' answer' cut' read' h') =
    let same = cut_one bytes part second part' second' cut cut' in
    absurd (refused_not_accepted part laws fault f' h (subst (λ p. IsAccepted p f') (sym same.0) read'))
one_parted Answer refused Claim one bytes laws a b (accepted part second f answer cut read h) (unread part' second' fault' cut' h') =
    let same = cut_one bytes part second part' second' cut cut' in
    absurd (refused_not_accepted part' laws fault' f h' (subst (λ p. IsAccepted p f) same.0 read))
one_parted Answer refused Claim one bytes laws a b (accepted part second f answer cut read h) (accepted part' second' f' answer' cut' read' h') =
    let same = cut_one bytes part second part' second' cut cut' in
    let read'' = subst (λ p. IsAccepted p f') (sym same.0) read' in
    let tree : f ≡ f' = laws.one_formula part f f' read.reads read''.reads in
    one f second a b h (subst (λ s. Claim f s b) (sym same.1) (subst (λ g. Claim g second' b) (sym tree) h'))

-- what is claimed of two parts comes of them, and of an accepted formula, where the status is that of no refusal
pub parted : (Answer : Type 0) (refused : Fault → Answer) (status_of : Answer → Status) → ((fault : Fault) → status_of (refused fault) ≡ fault_status fault)
    → (Claim : Formula → List ℕ → Answer → Type 0) (bytes : List ℕ) (a : Answer) (s : Status) → IsParted Answer refused Claim bytes a
    → is_refusal s ≡ false → s ≡ status_of a
    → (part second : List ℕ) × (f : Formula) × IsCut bytes part second × IsAccepted part f × Claim f second a
parted Answer refused status_of own Claim bytes a s (uncut none) not e = absurd (not_refused s faults.NoSeparator not (e ∙ own faults.NoSeparator))
parted Answer refused status_of own Claim bytes a s (unread part second fault cut refuses) not e = absurd (not_refused s fault not (e ∙ own fault))
parted Answer refused status_of own Claim bytes a s (accepted part second f answer cut read judged) not e = (part, second, f, cut, read, judged)
