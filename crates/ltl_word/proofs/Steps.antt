-- The operators of one formula step by step: what is reached is reached from the neighbour, or is here. And the plain forms of those without numbers.
use Rattle.std.proofs.Common.{◌≡◌, ℕ, suc, ◌-◌, ◌<◌, ◌⊎◌, inl, inr, ◌↔◌, subst, arith, refl, sym}
use Rattle.std.proofs.lemmas.Bool.{cases_lt}
use Rattle.ltl_syntax.specs.Shape.{Direction, Future, Past, Range, Step, Exactly, Between, Ever}
use Rattle.ltl_word.specs.Claims.{Claim, Always', Never, IsLater, Reached, IsSomewhere, IsEverywhere, IsUntil, IsReleased, IsSince, IsTriggered}
use Rattle.ltl_word.proofs.Expansion.{IsClosed}
use Rattle.ltl_word.proofs.Reached.{later_le}

-- behind one step, r is s
pub record Peels (r s : Range) : Type 0 where
  pub on : (i j : ℕ) → i < j → IsLater r i j → IsLater s (suc i) j
  pub on_back : (i j : ℕ) → IsLater s (suc i) j → IsLater r i j
  pub off : (i j : ℕ) → i < j → IsLater r i j → IsLater s i (j - 1)
  pub off_back : (i j : ℕ) → IsLater s i j → IsLater r i (suc j)

pub exactly_peels : (n : ℕ) → Peels (Exactly (suc n)) (Exactly n)
exactly_peels n = record { on = λ i j lt w. omega arith; on_back = λ i j w. omega arith; off = λ i j lt w. omega arith; off_back = λ i j w. omega arith }

pub between_peels : (a b : ℕ) → Peels (Between (suc a) (suc b)) (Between a b)
between_peels a b = record {
  on = λ i j lt w. (omega arith, omega arith);
  on_back = λ i j w. (omega arith, omega arith);
  off = λ i j lt w. (omega arith, omega arith);
  off_back = λ i j w. (omega arith, omega arith);
}

pub first_peels : (b : ℕ) → Peels (Between 0 (suc b)) (Between 0 b)
first_peels b = record {
  on = λ i j lt w. (omega arith, omega arith);
  on_back = λ i j w. (omega arith, omega arith);
  off = λ i j lt w. (omega arith, omega arith);
  off_back = λ i j w. (omega arith, omega arith);
}

pub ever_peels : Peels Ever Ever
ever_peels = record { on = λ i j lt w. lt; on_back = λ i j w. omega arith; off = λ i j lt w. omega arith; off_back = λ i j w. omega arith }

-- r reaches nothing here, or nothing else
abbrev pub IsAway : Range → Type 0
IsAway r = (i j : ℕ) → IsLater r i j → i < j

abbrev pub IsHereOnly : Range → Type 0
IsHereOnly r = (i j : ℕ) → IsLater r i j → i ≡ j

abbrev Away : Direction → ℕ → ℕ → Type 0
Away Future i j = i < j
Away Past i j = j < i

away : (P : Claim) (d : Direction) (r : Range) (i j : ℕ) → IsAway r → Reached P d r i j → Away d i j
away P Future r i j is w = is i j w.0
away P Past r i j is w = is j i w

away_or_here : (P : Claim) (d : Direction) (r : Range) (i j : ℕ) → Reached P d r i j → Away d i j ⊎ (j ≡ i)
away_or_here P Future r i j w = let le = later_le r i j w.0 in elim (cases_lt i j) [ inl lt ↦ inl lt | inr ge ↦ inr (omega arith) ]
away_or_here P Past r i j w = let le = later_le r j i w in elim (cases_lt j i) [ inl lt ↦ inl lt | inr ge ↦ inr (omega arith) ]

out : (P : Claim) → IsClosed P → (d : Direction) (r s : Range) → Peels r s → (i j : ℕ) → Away d i j → Reached P d r i j
    → (k : ℕ) × Reached P d Step i k × Reached P d s k j
out P closed Future r s peels i j lt w = (suc i, (refl, closed (suc i) j (omega arith) w.1), (peels.on i j lt w.0, w.1))
out P closed Past r s peels i j lt w = (i - 1, omega arith, peels.off j i lt w)

back : (P : Claim) (d : Direction) (r s : Range) → Peels r s → (i k j : ℕ) → Reached P d Step i k → Reached P d s k j → Reached P d r i j
back P Future r s peels i k j step w = (peels.on_back i j (subst (λ m. IsLater s m j) (sym step.0) w.0), w.1)
back P Past r s peels i k j step w = subst (λ m. IsLater r j m) step (peels.off_back j k w)

module _ (P A : Claim) (closed : IsClosed P) (d : Direction) {r s : Range} (peels : Peels r s) (i : ℕ) where
  some_in : IsSomewhere P d Step (IsSomewhere P d s A) i → IsSomewhere P d r A i
  some_in w = (w.2.0, back P d r s peels i w.0 w.2.0 w.1 w.2.1, w.2.2)

  every_out : IsEverywhere P d r A i → IsEverywhere P d Step (IsEverywhere P d s A) i
  every_out f k step j w = f j (back P d r s peels i k j step w)

  pub some_later : IsAway r → IsSomewhere P d r A i ↔ IsSomewhere P d Step (IsSomewhere P d s A) i
  some_later is = (λ w. let v = out P closed d r s peels i w.0 (away P d r i w.0 is w.1) w.1 in (v.0, v.1, (w.0, v.2, w.2)), some_in)

  pub every_later : IsAway r → IsEverywhere P d r A i ↔ IsEverywhere P d Step (IsEverywhere P d s A) i
  every_later is = (every_out, λ f j w. let v = out P closed d r s peels i j (away P d r i j is w) w in f v.0 v.1 j v.2)

  pub some_first : Reached P d r i i → IsSomewhere P d r A i ↔ (A i ⊎ IsSomewhere P d Step (IsSomewhere P d s A) i)
  some_first here = (
    λ w. elim (away_or_here P d r i w.0 w.1) [
      | inl lt ↦ let v = out P closed d r s peels i w.0 lt w.1 in inr (v.0, v.1, (w.0, v.2, w.2))
      | inr e ↦ inl (subst A e w.2)
    ],
    λ w. elim w [ inl x ↦ (i, here, x) | inr v ↦ some_in v ],
  )

  pub every_first : Reached P d r i i → IsEverywhere P d r A i ↔ (A i × IsEverywhere P d Step (IsEverywhere P d s A) i)
  every_first here = (
    λ f. (f i here, every_out f),
    λ f j w. elim (away_or_here P d r i j w) [
      | inl lt ↦ let v = out P closed d r s peels i j lt w in f.1 v.0 v.1 j v.2
      | inr e ↦ subst A (sym e) f.0
    ],
  )

module _ (P A : Claim) (d : Direction) (r : Range) (only : IsHereOnly r) (i : ℕ) (here : Reached P d r i i) where
  it_is_here : (e : Direction) (j : ℕ) → Reached P e r i j → j ≡ i
  it_is_here Future j w = sym (only i j w.0)
  it_is_here Past j w = only j i w

  pub some_here : IsSomewhere P d r A i ↔ A i
  some_here = (λ w. subst A (it_is_here d w.0 w.1) w.2, λ x. (i, here, x))

  pub every_here : IsEverywhere P d r A i ↔ A i
  every_here = (λ f. f i here, λ x j w. subst A (sym (it_is_here d j w)) x)

-- ---- plain forms

module _ (P A : Claim) (i : ℕ) where
  -- the next position is there and has it
  pub next_is : IsSomewhere P Future Step A i ↔ (P (suc i) × A (suc i))
  next_is = (λ w. (subst P (sym w.1.0) w.1.1, subst A (sym w.1.0) w.2), λ w. (suc i, (refl, w.0), w.1))

  -- the next position has it where it is there
  pub weak_next_is : IsEverywhere P Future Step A i ↔ (P (suc i) → A (suc i))
  weak_next_is = (λ f at. f (suc i) (refl, at), λ f j w. subst A w.0 (f (subst P (sym w.0) w.1)))

  pub eventually_is : IsSomewhere P Future Ever A i ↔ IsUntil P Always' A i
  eventually_is = (λ w. (w.0, w.1.0, w.1.1, w.2, λ k low high. tt), λ w. (w.0, (w.1, w.2), w.3))

  pub always_is : IsEverywhere P Future Ever A i ↔ IsReleased P Never A i
  always_is = (λ f j le at. inl (f j (le, at)), λ f j w. elim (f j w.0 w.1) [ inl x ↦ x | inr v ↦ absurd v.3 ])

  pub once_is : IsSomewhere P Past Ever A i ↔ IsSince Always' A i
  once_is = (λ w. (w.0, w.1, w.2, λ k low high. tt), λ w. (w.0, w.1, w.2))

  pub historically_is : IsEverywhere P Past Ever A i ↔ IsTriggered Never A i
  historically_is = (λ f j le. inl (f j le), λ f j w. elim (f j w) [ inl x ↦ x | inr v ↦ absurd v.3 ])

-- what is told in a plain form is told
pub by_form : {X Y Z : Type 0} → X ↔ Y → Z ↔ Y → X ↔ Z
by_form told form = (λ x. form.1 (told.0 x), λ z. told.1 (form.0 z))
