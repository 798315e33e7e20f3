-- What is known of a letter, and how it changes once the letter is denied or concluded.
use Rattle.std.proofs.Common.{◌≡◌, ◌≢◌, ℕ, ◌+◌, ◌<◌, [], ◌∷◌, ◌++◌, Bool, true, false, Option, Some, None, length, slice_set, nat_eq, refl, ◌∙◌, arith}
use Rattle.std.proofs.lemmas.Bool.{lt-ltb, le-ltb, eq-eqb, false_from_ne_true, eqb-true}
use Rattle.std.proofs.lemmas.List.{get_or-set_same, get_or-set_other, length-set}
use Rattle.cnf_base.specs.declared.literal.Hint.{Hint}
use Rattle.cdcl_analyze.specs.Marks.{MarksValue, outcome_from, outcome_of, with_outcomes, with_consequences, FoundSame}

pub some_same : {X : Type 0} {x y : X} {o : Option X} → o ≡ Some x → o ≡ Some y → x ≡ y
some_same a b = cc

pub true_not_false : {o : Option Bool} → o ≡ Some true → ¬ (o ≡ Some false)
true_not_false a b = cc

pub none_not_some : {o : Option Bool} {b : Bool} → o ≡ None → ¬ (o ≡ Some b)
none_not_some a b = cc

-- what is remembered once a letter is denied, and once it is concluded
abbrev pub denied : MarksValue → ℕ → MarksValue
denied m letter = with_outcomes m (slice_set m.outcomes letter m.stamp)

abbrev pub concluded : MarksValue → ℕ → Hint → MarksValue
concluded m letter reason =
    with_consequences (with_outcomes m (slice_set m.outcomes letter (m.stamp + 1))) (m.consequences ++ record { letter = letter; reason = reason } ∷ [])

-- a number that was written in place of a letter's changes what is known of that letter alone
pub outcome_other : (m : MarksValue) (letter n x : ℕ) → x ≢ letter → outcome_of (with_outcomes m (slice_set m.outcomes letter n)) x ≡ outcome_of m x
outcome_other m letter n x differ = rw (length-set m.outcomes letter n, get_or-set_other m.outcomes letter x n 0 differ) refl

outcome_set : (m : MarksValue) (letter n : ℕ) → letter < length m.outcomes
    → outcome_of (with_outcomes m (slice_set m.outcomes letter n)) letter ≡ outcome_from m.stamp n
outcome_set m letter n low = rw (length-set m.outcomes letter n, get_or-set_same m.outcomes letter n 0 low, lt-ltb letter (length m.outcomes) low) refl

pub outcome_denied : (m : MarksValue) (letter : ℕ) → letter < length m.outcomes → outcome_of (denied m letter) letter ≡ Some false
outcome_denied m letter low = outcome_set m letter m.stamp low ∙ rw (le-ltb m.stamp m.stamp (omega arith), eq-eqb m.stamp m.stamp refl) refl

pub outcome_concluded : (m : MarksValue) (letter : ℕ) (reason : Hint) → letter < length m.outcomes → outcome_of (concluded m letter reason) letter ≡ Some true
outcome_concluded m letter reason low =
    let differ : nat_eq (m.stamp + 1) m.stamp ≡ false = false_from_ne_true _ (λ e. absurd (omega (arith, eqb-true (m.stamp + 1) m.stamp e))) in
    outcome_set m letter (m.stamp + 1) low ∙ rw (le-ltb (m.stamp + 1) m.stamp (omega arith), differ) refl

-- where what was found is the same, the outcomes are
pub outcome_same : (old new : MarksValue) → FoundSame old new → (x : ℕ) → outcome_of new x ≡ outcome_of old x
outcome_same old new found x = rw (found.stamp, found.outcomes) refl
