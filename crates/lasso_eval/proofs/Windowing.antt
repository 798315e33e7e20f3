-- Places kept along a row say what the windows hold.
use Rattle.std.proofs.Common.{◌≡◌, ℕ, zero, suc, ◌+◌, ◌-◌, ◌%◌, ◌<◌, ◌≤◌, Bool, true, false, List, length, Option, Some, None, if◌then◌else◌, IsTrue, inl, inr}
use Rattle.std.proofs.Common.{◌↔◌, refl, sym, ◌∙◌, ap, subst, ltb, arith}
use Rattle.std.proofs.Common.{le-ltb}
use Rattle.std.proofs.lemmas.Bool.{cases_lt, cond-false}
use Rattle.std.proofs.Math.Nat.{add-mod_right}
use Rattle.ltl_syntax.specs.Shape.{Future, Past, Between}
use Rattle.ltl_word.specs.Claims.{Claim, Always', IsSomewhere}
use Rattle.lasso_eval.specs.Rows.{cell}
use Rattle.lasso_eval.specs.Windows.{same, shows, IsNearest, IsLatest, IsAtMost, IsAtLeast}

pub same_twice : (s b : Bool) → same s (same s b) ≡ b
same_twice true b = refl
same_twice false true = refl
same_twice false false = refl

module _ (S : Claim) where
  -- one place more at the near end
  pub nearest_step : (k : ℕ) (shown : Bool) (nearest : Option ℕ) → IsTrue shown ↔ S k → IsNearest S (suc k) nearest
      → IsNearest S k (if shown then Some k else nearest)
  nearest_step k true nearest tells is = (omega arith, tells.0 refl, λ j low high s. absurd (omega arith))
  nearest_step k false None tells is = λ j low s. elim (cases_lt k j) [
    | inl after ↦ is j (omega arith) s
    | inr here ↦ let e : j ≡ k = omega arith in let f = tells.1 (subst S e s) in absurd (cc)
  ]
  nearest_step k false (Some place) tells is = (
    omega (arith, is.0),
    is.1,
    λ j low high s. elim (cases_lt k j) [
      | inl after ↦ is.2 j (omega arith) high s
      | inr here ↦ let e : j ≡ k = omega arith in let f = tells.1 (subst S e s) in absurd (cc)
    ],
  )

  pub latest_step : (k : ℕ) (shown : Bool) (latest : Option ℕ) → IsTrue shown ↔ S k → IsLatest S k latest
      → IsLatest S (suc k) (if shown then Some k else latest)
  latest_step k true latest tells is = (omega arith, tells.0 refl, λ j low high s. absurd (omega arith))
  latest_step k false None tells is = λ j high s. elim (cases_lt j k) [
    | inl before ↦ is j before s
    | inr here ↦ let e : j ≡ k = omega arith in let f = tells.1 (subst S e s) in absurd (cc)
  ]
  latest_step k false (Some place) tells is = (
    omega (arith, is.0),
    is.1,
    λ j low high s. elim (cases_lt j k) [
      | inl before ↦ is.2 j low before s
      | inr here ↦ let e : j ≡ k = omega arith in let f = tells.1 (subst S e s) in absurd (cc)
    ],
  )

  -- no place is so early yet, or there is one place more
  pub latest_moved : (first i : ℕ) (shown : Bool) (latest : Option ℕ) → IsTrue shown ↔ ((first ≤ i) × S (i - first)) → IsLatest S (i - first) latest
      → IsLatest S (i + 1 - first) (if shown then Some (i - first) else latest)
  latest_moved first i shown latest tells is = elim (cases_lt i first) [
    | inl early ↦ unchanged shown tells (let e : i - first ≡ i + 1 - first = omega arith in subst (λ k. IsLatest S k latest) e is) early
    | inr there ↦
        let e : suc (i - first) ≡ i + 1 - first = omega arith in
        subst (λ k. IsLatest S k (if shown then Some (i - first) else latest)) e
        (latest_step (i - first) shown latest (λ t. (tells.0 t).1, λ s. tells.1 (there, s)) is)
  ] where
    unchanged : (b : Bool) → IsTrue b ↔ ((first ≤ i) × S (i - first)) → IsLatest S (i + 1 - first) latest
        → i < first → IsLatest S (i + 1 - first) (if b then Some (i - first) else latest)
    unchanged true says was early = absurd (omega (arith, (says.0 refl).0))
    unchanged false says was early = was

  -- the nearest place tells of the whole window
  pub nearest_tells : (first last i : ℕ) (nearest : Option ℕ) → IsNearest S (i + first) nearest
      → IsAtMost nearest (i + last) ↔ IsSomewhere Always' Future (Between first last) S i
  nearest_tells first last i None is = (λ never. absurd never, λ w. is w.0 w.1.0.0 w.2)
  nearest_tells first last i (Some place) is = (
    λ le. (place, ((is.0, le), tt), is.1),
    λ w. elim (cases_lt w.0 place) [
      | inl before ↦ absurd (is.2 w.0 w.1.0.0 before w.2)
      | inr after ↦ omega (arith, w.1.0.1)
    ],
  )

  pub latest_tells : (first last i : ℕ) (latest : Option ℕ) → IsLatest S (i + 1 - first) latest
      → IsAtLeast latest (i - last) ↔ IsSomewhere Always' Past (Between first last) S i
  latest_tells first last i None is = (λ never. absurd never, λ w. is w.0 (omega (arith, w.1.0)) w.2)
  latest_tells first last i (Some place) is = (
    λ le. (place, (omega (arith, is.0), omega (arith, le)), is.1),
    λ w. elim (cases_lt place w.0) [
      | inl after ↦ absurd (is.2 w.0 after (omega (arith, w.1.0)) w.2)
      | inr before ↦ omega (arith, w.1.1)
    ],
  )

  -- where what is there comes already before an end, nothing is lost by looking no farther
  pub nearest_wide : (low high : ℕ) (nearest : Option ℕ) → ((j : ℕ) → low ≤ j → S j → (k : ℕ) × (low ≤ k) × (k < high) × S k)
      → IsNearest (λ j. (j < high) × S j) low nearest → IsNearest S low nearest
  nearest_wide low high None sooner is = λ j from s. let w = sooner j from s in is w.0 w.1 (w.2, w.3)
  nearest_wide low high (Some place) sooner is = (is.0, is.1.1, λ j from before s. is.2 j from before (omega (arith, is.1.0), s))

module _ (sought : Bool) (a : List Bool) (start : ℕ) where
  -- behind the last column the cells come again each round
  pub shows_round : (i : ℕ) → start < length a → length a ≤ i → shows sought a start (i + (length a - start)) ≡ shows sought a start i
  shows_round i low behind =
      let p = length a - start in
      let e : i + p - start ≡ (i - start) + p = omega arith in
      let turn : (i + p - start) % p ≡ (i - start) % p = ap (λ m. m % p) e ∙ add-mod_right (i - start) p in
      cond-false _ _ _ (le-ltb (i + p) (length a) (omega arith))
      ∙ ap (λ m. if ltb start (length a) then same sought (cell a (start + m)) else false) turn
      ∙ sym (cond-false _ _ _ (le-ltb i (length a) behind))

  -- behind a finite trace there is nothing
  pub shows_nothing : (i : ℕ) → length a ≤ start → length a ≤ i → shows sought a start i ≡ false
  shows_nothing i none behind = cond-false _ _ _ (le-ltb i (length a) behind) ∙ cond-false _ _ _ (le-ltb start (length a) none)

  -- what comes at all comes within one round
  pub shows_sooner : (low : ℕ) → start ≤ length a → length a ≤ low → (j : ℕ) → low ≤ j → IsTrue (shows sought a start j)
      → (k : ℕ) × (low ≤ k) × (k < low + (length a - start)) × IsTrue (shows sought a start k)
  shows_sooner low within behind j from shown = elim (cases_lt start (length a)) [
    | inr none ↦ let f : shows sought a start j ≡ false = shows_nothing j none (omega arith) in absurd (cc)
    | inl looped ↦ by_rounds looped j j (omega arith) from shown
  ] where
    by_rounds : start < length a → (fuel i : ℕ) → i ≤ fuel → low ≤ i → IsTrue (shows sought a start i)
        → (k : ℕ) × (low ≤ k) × (k < low + (length a - start)) × IsTrue (shows sought a start k)
    by_rounds looped zero i le up s = (i, up, omega arith, s)
    by_rounds looped (suc fuel) i le up s = elim (cases_lt i (low + (length a - start))) [
      | inl near ↦ (i, up, near, s)
      | inr far ↦
          let p = length a - start in
          let e : i ≡ (i - p) + p = omega arith in
          by_rounds looped fuel (i - p) (omega arith) (omega arith)
          (sym (shows_round (i - p) looped (omega arith)) ∙ ap (λ n. shows sought a start n) (sym e) ∙ s)
    ]
