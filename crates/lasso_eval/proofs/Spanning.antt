-- A row swept by the rule of until, release, since or trigger says where it holds.
use Rattle.std.proofs.Common.{◌≡◌, ℕ, zero, suc, ◌+◌, ◌-◌, ◌<◌, ◌≤◌, Bool, true, false, ◌&&◌, ◌||◌, List, IsTrue, ◌⊎◌, inl, inr, ◌↔◌, refl, sym, subst, arith}
use Rattle.std.specs.Prelude.{⊤}
use Rattle.std.proofs.lemmas.Bool.{cases_lt}
use Rattle.ltl_syntax.specs.Shape.{Past, Step}
use Rattle.ltl_word.specs.Claims.{Claim, Always', IsSomewhere, IsEverywhere, IsUntil, IsReleased, IsSince, IsTriggered}
use Rattle.ltl_word.proofs.Expansion.{IsClosed, until_in, until_out, release_in, release_out, since_in, since_out, trigger_in, trigger_out}
use Rattle.ltl_word.proofs.Steps.{next_is, weak_next_is, by_form}
use Rattle.ltl_word.proofs.Repeats.{Repeats, moved_down, moved_up}
use Rattle.lasso_eval.specs.declared.span.Span.{Span}
use Rattle.lasso_eval.specs.Rows.{cell}
use Rattle.lasso_eval.specs.Spans.{beyond, step, swept_back, swept_before}
use Rattle.lasso_eval.proofs.Truths.{and_tells, or_tells, told_decided}

-- the truth values say of the first n positions where the claim holds
abbrev pub Say : ℕ → (ℕ → Bool) → Claim → Type 0
Say n x A = (i : ℕ) → i < n → IsTrue (x i) ↔ A i

-- the rule of the span is that of until, and that of release, of these values
abbrev pub IsUntilRule : Span → List Bool → List Bool → (ℕ → Bool) → (ℕ → Bool) → Type 0
IsUntilRule span a b x y = (i : ℕ) (v : Bool) → step span (cell a i) (cell b i) v ≡ (y i || (x i && v))

abbrev pub IsReleaseRule : Span → List Bool → List Bool → (ℕ → Bool) → (ℕ → Bool) → Type 0
IsReleaseRule span a b x y = (i : ℕ) (v : Bool) → step span (cell a i) (cell b i) v ≡ (y i && (x i || v))

module _ (span : Span) (a b : List Bool) (x y : ℕ → Bool) (X Y : Claim) (n : ℕ) (tx : Say n x X) (ty : Say n y Y) where
  module _ (P : Claim) (closed : IsClosed P) (there : (i : ℕ) → i < n → P i) where
    pub until_swept : IsUntilRule span a b x y → (v : Bool) → IsTrue v ↔ (P n × IsUntil P X Y n)
        → (c i : ℕ) → i + c ≡ n → IsTrue (swept_back span a b c i v) ↔ (P i × IsUntil P X Y i)
    until_swept rule v e zero i at = let h : n ≡ i = omega arith in subst (λ m. IsTrue v ↔ (P m × IsUntil P X Y m)) h e
    until_swept rule v e (suc c) i at =
        let next = by_form (until_swept rule v e c (suc i) (omega arith)) (next_is P (IsUntil P X Y) i) in
        let low : i < n = omega arith in
        let told = or_tells (y i) (x i && swept_back span a b c (suc i) v) (ty i low) (and_tells (x i) (swept_back span a b c (suc i) v) (tx i low) next) in
        subst (λ r. IsTrue r ↔ (P i × IsUntil P X Y i)) (sym (rule i (swept_back span a b c (suc i) v))) (
          λ t. (there i low, until_in P X Y closed i (there i low) (told.0 t)),
          λ w. told.1 (until_out P X Y closed i w.1),
        )

    pub release_swept : IsReleaseRule span a b x y → (v : Bool) → IsTrue v ↔ (P n → IsReleased P X Y n)
        → (c i : ℕ) → i + c ≡ n → IsTrue (swept_back span a b c i v) ↔ (P i → IsReleased P X Y i)
    release_swept rule v e zero i at = let h : n ≡ i = omega arith in subst (λ m. IsTrue v ↔ (P m → IsReleased P X Y m)) h e
    release_swept rule v e (suc c) i at =
        let next = by_form (release_swept rule v e c (suc i) (omega arith)) (weak_next_is P (IsReleased P X Y) i) in
        let low : i < n = omega arith in
        let told = and_tells (y i) (x i || swept_back span a b c (suc i) v) (ty i low) (or_tells (x i) (swept_back span a b c (suc i) v) (tx i low) next) in
        subst (λ r. IsTrue r ↔ (P i → IsReleased P X Y i)) (sym (rule i (swept_back span a b c (suc i) v))) (
          λ t at. release_in P X Y closed i (told.0 t),
          λ f. told.1 (release_out P X Y closed i (there i low) (told_decided (x i) (tx i low)) (f (there i low))),
        )

  -- as before, where the end is that of a finite trace
  abbrev Within : Claim
  Within i = i < n

  within_closed : IsClosed Within
  within_closed i j le at = omega arith

  pub until_within : IsUntilRule span a b x y → (c i : ℕ) → i + c ≡ n → IsTrue (swept_back span a b c i false) ↔ ((i < n) × IsUntil (λ j. j < n) X Y i)
  until_within rule = until_swept Within within_closed (λ i h. h) rule false (λ e. absurd (cc), λ w. absurd (omega arith))

  pub release_within : IsReleaseRule span a b x y → (c i : ℕ) → i + c ≡ n → IsTrue (swept_back span a b c i true) ↔ ((i < n) → IsReleased (λ j. j < n) X Y i)
  release_within rule = release_swept Within within_closed (λ i h. h) rule true (λ e at. absurd (omega arith), λ w. refl)

  -- from the value before a position to the one at it
  since_step : IsUntilRule span a b x y → (i : ℕ) → i < n → IsTrue (swept_before span a b i) ↔ IsSomewhere Always' Past Step (IsSince X Y) i
      → IsTrue (swept_before span a b (suc i)) ↔ IsSince X Y i
  since_step rule i low before =
      let told = or_tells (y i) (x i && swept_before span a b i) (ty i low) (and_tells (x i) (swept_before span a b i) (tx i low) before) in
      subst (λ r. IsTrue r ↔ IsSince X Y i) (sym (rule i (swept_before span a b i))) (λ t. since_in X Y i (told.0 t), λ s. told.1 (since_out X Y i s))

  since_before : IsUntilRule span a b x y → beyond span ≡ false → (i : ℕ) → i ≤ n
      → IsTrue (swept_before span a b i) ↔ IsSomewhere Always' Past Step (IsSince X Y) i
  since_before rule none zero le = (λ e. absurd (cc), λ w. let h : suc w.0 ≡ 0 = w.1 in absurd (omega arith))
  since_before rule none (suc i) le =
      let here = since_step rule i (omega arith) (since_before rule none i (omega arith)) in (
        λ t. (i, refl, here.0 t),
        λ w. let h : w.0 ≡ i = omega (arith, w.1) in here.1 (subst (IsSince X Y) h w.2),
      )

  pub since_swept : IsUntilRule span a b x y → beyond span ≡ false → (i : ℕ) → i < n → IsTrue (swept_before span a b (suc i)) ↔ IsSince X Y i
  since_swept rule none i low = since_step rule i low (since_before rule none i (omega arith))

  trigger_step : IsReleaseRule span a b x y → (i : ℕ) → i < n → IsTrue (swept_before span a b i) ↔ IsEverywhere Always' Past Step (IsTriggered X Y) i
      → IsTrue (swept_before span a b (suc i)) ↔ IsTriggered X Y i
  trigger_step rule i low before =
      let told = and_tells (y i) (x i || swept_before span a b i) (ty i low) (or_tells (x i) (swept_before span a b i) (tx i low) before) in
      subst (λ r. IsTrue r ↔ IsTriggered X Y i) (sym (rule i (swept_before span a b i)))
      (λ t. trigger_in X Y i (told.0 t), λ s. told.1 (trigger_out X Y i (told_decided (x i) (tx i low)) s))

  trigger_before : IsReleaseRule span a b x y → beyond span ≡ true → (i : ℕ) → i ≤ n
      → IsTrue (swept_before span a b i) ↔ IsEverywhere Always' Past Step (IsTriggered X Y) i
  trigger_before rule all zero le = (λ e j h. absurd (omega (arith, h)), λ w. all)
  trigger_before rule all (suc i) le =
      let here = trigger_step rule i (omega arith) (trigger_before rule all i (omega arith)) in (
        λ t j h. let e : i ≡ j = omega (arith, h) in subst (IsTriggered X Y) e (here.0 t),
        λ w. here.1 (w i refl),
      )

  pub trigger_swept : IsReleaseRule span a b x y → beyond span ≡ true → (i : ℕ) → i < n → IsTrue (swept_before span a b (suc i)) ↔ IsTriggered X Y i
  trigger_swept rule all i low = trigger_step rule i low (trigger_before rule all i (omega arith))

-- what is fulfilled on a loop is fulfilled within its first round
module _ (X Y : Claim) (start p : ℕ) (some : 0 < p) (rx : Repeats X p start) (ry : Repeats Y p start) where
  sooner : (fuel j : ℕ) → j ≤ fuel → start ≤ j → Y j → ((k : ℕ) → start ≤ k → k < j → X k) → IsUntil (λ i. i < start + p) X Y start
  sooner zero j le from y between = (j, from, omega arith, y, between)
  sooner (suc fuel) j le from y between = elim (cases_lt j (start + p)) [
    | inl within ↦ (j, from, within, y, between)
    | inr past ↦ sooner fuel (j - p) (omega arith) (omega arith) (moved_down Y p start ry j past y) (λ k low high. between k low (omega arith))
  ]

  pub until_around : IsUntil (λ i. i < start + p) X Y start ↔ IsUntil (λ i. ⊤) X Y start
  until_around = (λ u. (u.0, u.1, tt, u.3, u.4), λ u. sooner u.0 u.0 (omega arith) u.1 u.3 u.4)

  longer : IsReleased (λ i. i < start + p) X Y start → (fuel j : ℕ) → j ≤ fuel → start ≤ j → Y j ⊎ ((k : ℕ) × (start ≤ k) × (k < j) × X k)
  longer f zero j le from = f j from (omega arith)
  longer f (suc fuel) j le from = elim (cases_lt j (start + p)) [
    | inl within ↦ f j from within
    | inr past ↦ elim (longer f fuel (j - p) (omega arith) (omega arith)) [
      | inl y ↦ inl (moved_up Y p start ry j past y)
      | inr w ↦ inr (w.0, w.1, omega arith, w.3)
    ]
  ]

  pub release_around : IsReleased (λ i. i < start + p) X Y start ↔ IsReleased (λ i. ⊤) X Y start
  release_around = (λ f j from at. longer f j j (omega arith) from, λ f j from at. f j from tt)
