-- Letters that are marked one after another, each for the first time.
use Rattle.std.proofs.Common.{◌≡◌, ◌≢◌, ℕ, ◌+◌, ◌<◌, ◌⊎◌, inl, inr, List, length, take, All, get_or, sym, subst, arith}
use Rattle.std.proofs.lemmas.List.{take_more}
use Rattle.std.proofs.lemmas.List.Elements.{All-push, All-weaker}
use Rattle.std.proofs.lemmas.List.Quantifiers.{all_pairs_push}
use Rattle.cnf_base.specs.declared.literal.Literal.{Literal}
use Rattle.cdcl_watches.specs.Watching.{AreApart, blank}
use Rattle.cdcl_state.specs.State.{HasLettersOnce}

module _ (old new : ℕ → Type 0) (clause : List Literal) (i : ℕ) (low : i < length clause) where
  pub marked_more : ((x : ℕ) → old x → new x) → new (get_or clause i blank).letter.0 → All (λ m. old m.letter.0) (take i clause)
      → All (λ m. new m.letter.0) (take (i + 1) clause)
  marked_more kept here all =
      subst (All (λ m. new m.letter.0)) (sym (take_more clause i blank low))
      (All-push (λ m. new m.letter.0) (take i clause) (get_or clause i blank)
      (All-weaker (λ m. old m.letter.0) (λ m. new m.letter.0) (λ m h. kept m.letter.0 h) (take i clause) all) here)

  pub apart_more : (¬ old (get_or clause i blank).letter.0) → All (λ m. old m.letter.0) (take i clause) → AreApart (take i clause)
      → AreApart (take (i + 1) clause)
  apart_more free all apart =
      subst AreApart (sym (take_more clause i blank low))
      (all_pairs_push (λ a b. a ≢ b) (take i clause) (get_or clause i blank) apart
      (λ k d lt same. free (subst (λ (m : Literal). old m.letter.0) same (all k d lt))))

  pub once_more : (¬ old (get_or clause i blank).letter.0) → All (λ m. old m.letter.0) (take i clause) → HasLettersOnce (take i clause)
      → HasLettersOnce (take (i + 1) clause)
  once_more free all once =
      subst HasLettersOnce (sym (take_more clause i blank low))
      (all_pairs_push (λ (a : Literal) b. a.letter.0 ≢ b.letter.0) (take i clause) (get_or clause i blank) once
      (λ k d lt same. free (subst old same (all k d lt))))

-- a marked letter stands at an earlier place
abbrev pub StandsBefore : List Literal → ℕ → ℕ → Type 0
StandsBefore clause i x = (j : ℕ) × (j < i) × ((get_or clause j blank).letter.0 ≡ x)

pub before_more : (old new : ℕ → Type 0) (clause : List Literal) (i x : ℕ) → ((x : ℕ) → old x → StandsBefore clause i x)
    → ((x : ℕ) → new x → (x ≡ (get_or clause i blank).letter.0) ⊎ old x) → new x → StandsBefore clause (i + 1) x
before_more old new clause i x before only is = elim (only x is) [
  | inl here ↦ (i, omega arith, sym here)
  | inr was ↦ let at = before x was in (at.0, omega (arith, at.1), at.2)
]

pub stands_twice : (clause : List Literal) (i : ℕ) → i < length clause → StandsBefore clause i (get_or clause i blank).letter.0 → ¬ HasLettersOnce clause
stands_twice clause i low at once = once at.0 i blank at.1 low at.2
