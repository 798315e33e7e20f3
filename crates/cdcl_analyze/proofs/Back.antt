-- Consequences that are taken back: the outcomes of their letters are numbers that no analysis has.
use Rattle.std.proofs.Common.{◌≡◌, ◌≢◌, ℕ, ◌<◌, ◌≤◌, ◌+◌, ◌-◌, ◌⊎◌, inl, inr, List, true, false, Some, None, take, set, length, get_or, refl, sym, ap, ◌∙◌}
use Rattle.std.proofs.Common.{subst, arith, length-set, length-take-le, take-take}
use Rattle.std.proofs.lemmas.Bool.{cases_lt, cases_eq, lt-ltb, le-ltb}
use Rattle.std.proofs.lemmas.List.{take_all, get_or-take, get_or_default, get_or-set_same, get_or-set_other}
use Rattle.cdcl_analyze.specs.declared.marks.Consequence.{Consequence}
use Rattle.cdcl_analyze.specs.Marks.{MarksValue, outcome_of, outcome_from, no_consequence, IsFrom}
use Rattle.cdcl_analyze.proofs.Outcomes.{true_not_false, none_not_some}

-- the outcomes once those from n on are taken back
pub record IsBack (old : List ℕ) (consequences : List Consequence) (n : ℕ) (new : List ℕ) : Type 0 where
  pub size : length new ≡ length old
  pub few : n ≤ length consequences
  pub others : (x : ℕ)
      → (get_or new x 0 ≡ get_or old x 0) ⊎ ((j : ℕ) × (n ≤ j) × (j < length consequences) × ((get_or consequences j no_consequence).letter ≡ x))
  pub back : (j : ℕ) → n ≤ j → j < length consequences → (get_or consequences j no_consequence).letter < length new
      → get_or new (get_or consequences j no_consequence).letter 0 ≡ 0

module _ (old : List ℕ) (consequences : List Consequence) (n : ℕ) (new : List ℕ) (here : IsBack old consequences (n + 1) new) where
  -- one more whose letter has an outcome
  pub back_one : (letter : ℕ) → letter ≡ (get_or consequences n no_consequence).letter → letter < length new → IsBack old consequences n (set new letter 0)
  back_one letter is low = record {
    size = length-set new letter 0 ∙ here.size;
    few = omega (arith, here.few);
    others = λ x. elim (cases_eq x letter) [
      | inl same ↦ inr (n, omega arith, omega (arith, here.few), sym is ∙ sym same)
      | inr differ ↦ elim (here.others x) [
        | inl e ↦ inl (get_or-set_other new letter x 0 0 differ ∙ e)
        | inr from ↦ inr (from.0, omega (arith, from.1), from.2, from.3)
      ]
    ];
    back = λ j high inside below. elim (cases_eq (get_or consequences j no_consequence).letter letter) [
      | inl same ↦ rw same (get_or-set_same new letter 0 0 low)
      | inr differ ↦ get_or-set_other new letter (get_or consequences j no_consequence).letter 0 0 differ
          ∙ here.back j (later j high differ) inside (omega (arith, below, length-set new letter 0))
    ];
  }
    where
      later : (j : ℕ) → n ≤ j → (get_or consequences j no_consequence).letter ≢ letter → n + 1 ≤ j
      later j high differ = elim (cases_eq j n) [
        | inl same ↦ absurd (differ (ap (λ i. (get_or consequences i no_consequence).letter) same ∙ sym is))
        | inr other ↦ omega (arith, high, other)
      ]

  -- one more whose letter has none
  pub back_other : length new ≤ (get_or consequences n no_consequence).letter → IsBack old consequences n new
  back_other high = record {
    size = here.size;
    few = omega (arith, here.few);
    others = λ x. elim (here.others x) [
      | inl e ↦ inl e
      | inr from ↦ inr (from.0, omega (arith, from.1), from.2, from.3)
    ];
    back = λ j from inside below. elim (cases_eq j n) [
      | inl same ↦ absurd (omega (arith, high, subst (λ i. (get_or consequences i no_consequence).letter < length new) same below))
      | inr other ↦ here.back j (omega (arith, from, other)) inside below
    ];
  }

-- an outcome of 0 does not say that the letter follows
zero_unknown : (stamp : ℕ) → outcome_from stamp 0 ≢ Some true
zero_unknown stamp e = elim (cases_lt 0 stamp) [
  | inl low ↦ none_not_some (early low) e
  | inr high ↦ true_not_false e (own (omega (arith, high)))
]
  where
    early : 0 < stamp → outcome_from stamp 0 ≡ None
    early low = rw (lt-ltb 0 stamp low) refl

    own : stamp ≡ 0 → outcome_from stamp 0 ≡ Some false
    own is = rw is refl

-- as the marks see it: an outcome is as before, or its letter is one of those taken back
pub back_others : (old new : MarksValue) (count : ℕ) → IsBack old.outcomes old.consequences count new.outcomes → new.stamp ≡ old.stamp
    → (x : ℕ) → (outcome_of new x ≡ outcome_of old x) ⊎ IsFrom old count x
back_others old new count back same x = elim (back.others x) [
  | inl e ↦ inl (rw (back.size, same, e) refl)
  | inr from ↦ inr from
]

-- and these letters are not said to follow
pub back_unknown : (old new : MarksValue) (count : ℕ) → IsBack old.outcomes old.consequences count new.outcomes → (x : ℕ) → IsFrom old count x
    → outcome_of new x ≢ Some true
back_unknown old new count back x (j, high, inside, is) e = elim (cases_lt x (length new.outcomes)) [
  | inl low ↦ zero_unknown new.stamp (sym (outcome_inside new x low
      (subst (λ n. get_or new.outcomes n 0 ≡ 0) is (back.back j high inside (subst (λ n. n < length new.outcomes) (sym is) low)))) ∙ e)
  | inr out ↦ none_not_some (outcome_outside new x (omega (arith, out))) e
]
  where
    outcome_inside : (m : MarksValue) (y : ℕ) → y < length m.outcomes → get_or m.outcomes y 0 ≡ 0 → outcome_of m y ≡ outcome_from m.stamp 0
    outcome_inside m y low zero_is = rw (lt-ltb y (length m.outcomes) low, zero_is) refl

    outcome_outside : (m : MarksValue) (y : ℕ) → length m.outcomes ≤ y → outcome_of m y ≡ None
    outcome_outside m y out = rw (le-ltb y (length m.outcomes) out) refl

-- the first of the consequences are kept
pub kept_first : (old new : List Consequence) (count : ℕ) → new ≡ take (length new) old → length new ≤ count → (count ≤ length new) ⊎ (new ≡ old)
    → new ≡ take count old
kept_first old new count is few low = elim low [
  | inl high ↦ let same : length new ≡ count = omega arith in is ∙ ap (λ n. take n old) same
  | inr all ↦ all ∙ sym (take_all count old (subst (λ l. length l ≤ count) all few))
]

-- the last of what is left, seen in the list at the start
module _ (start now shorter : List Consequence) (is : now ≡ take (length now) start) (some : 0 < length now) (few : length now ≤ length start)
    (shorter_is : shorter ≡ take (length now - 1) now) where
  pub shorter_length : length shorter ≡ length now - 1
  shorter_length = ap length shorter_is ∙ length-take-le (length now - 1) now (omega arith)

  pub shorter_length_back : length now ≡ length shorter + 1
  shorter_length_back = omega (arith, shorter_length, some)

  pub last_letter : (last : Consequence) → last ≡ get_or now (length now - 1) last → last.letter ≡ (get_or start (length shorter) no_consequence).letter
  last_letter last last_is = rw shorter_length
      (ap (λ (c : Consequence). c.letter) (last_is ∙ get_or_default now (length now - 1) last no_consequence (omega (arith, some))
      ∙ ap (λ (l : List Consequence). get_or l (length now - 1) no_consequence) is ∙ get_or-take (length now) start (length now - 1) no_consequence (omega (
        arith,
        some,
      ))))

  pub shorter_first : shorter ≡ take (length shorter) start
  shorter_first =
      rw shorter_length (shorter_is ∙ ap (λ (l : List Consequence). take (length now - 1) l) is ∙ take-take (length now - 1) (length now) start (omega arith))

-- those from one index on are those from another
pub from_later : (m : MarksValue) (n count : ℕ) → (count ≤ n) ⊎ (length m.consequences ≤ n) → (x : ℕ) → IsFrom m n x → IsFrom m count x
from_later m n count (inl low) x (j, high, inside, is) = (j, omega (arith, high, low), inside, is)
from_later m n count (inr all) x (j, high, inside, is) = absurd (omega (arith, high, inside, all))
