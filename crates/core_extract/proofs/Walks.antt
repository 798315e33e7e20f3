-- Walks over the places: what one leads to is determined, two in a row are one, and each kept occurrence that is taken leaves fewer kept.
use Rattle.std.proofs.Common.{◌≡◌, ℕ, zero, suc, ◌+◌, ◌-◌, ◌<◌, ◌≤◌, ◌⊎◌, inl, inr, subst, ap, arith, sym, refl, ◌∙◌}
use Rattle.std.proofs.lemmas.Bool.{cases_lt}
use Rattle.ltl_syntax.specs.Formula.{Formula}
use Rattle.ltl_syntax.specs.Replacement.{Places, AreSame, AreApart, IsKept, part_at, size_at, added, rep}
use Rattle.core_extract.specs.Core.{Test, IsExclusive, IsTaken, IsLeft, IsWalk}
use Rattle.ltl_syntax.proofs.Places.{one_set, nodes_some, added_self, apart_after}
use Rattle.core_extract.proofs.Kept.{kept_count, fewer_after}

module _ (T : Test) (f : Formula) where
  abbrev Walk : ℕ → ℕ → Places → Places → Type 0
  Walk count at P Q = IsWalk T f count at P Q

  abbrev Taken : Places → ℕ → Type 0
  Taken P n = IsTaken T f P n

  abbrev Left : Places → ℕ → Type 0
  Left P n = IsLeft T f P n

  pub walk_none : (at : ℕ) (P : Places) → Walk 0 at P P
  walk_none at P n = refl

  pub walk_same : (count at : ℕ) (P Q R : Places) → Walk count at P Q → AreSame Q R → Walk count at P R
  walk_same count at P Q R w same = subst (λ X. Walk count at P X) (one_set Q R same) w

  pub walk_from_same : (count at : ℕ) (P Q R : Places) → AreSame P Q → Walk count at Q R → Walk count at P R
  walk_from_same count at P Q R same w = subst (λ X. Walk count at X R) (sym (one_set P Q same)) w

  -- one walk, and then one from where it ended
  pub walk_then : (a b at : ℕ) (P Q R : Places) → Walk a at P Q → Walk b (at + a) Q R → Walk (a + b) at P R
  walk_then zero b at P Q R v w =
      let here : at + zero ≡ at = omega arith in
      let all : b ≡ zero + b = omega arith in
      subst (λ n. Walk n at P R) all (walk_from_same b at P Q R v (subst (λ n. Walk b n Q R) here w))
  walk_then (suc a) b at P Q R v w =
      let here : at + suc a ≡ suc at + a = omega arith in
      let all : suc (a + b) ≡ suc a + b = omega arith in
      let w' : Walk b (suc at + a) Q R = subst (λ n. Walk b n Q R) here w in
      subst (λ n. Walk n at P R) all (elim v [
        | inl x ↦ inl (x.0, walk_then a b (suc at) (added f P at) Q R x.1 w')
        | inr x ↦ inr (x.0, walk_then a b (suc at) P Q R x.1 w')
      ])

  -- where no place is taken, the set stays
  pub walk_idle : (count at : ℕ) (P : Places) → ((k : ℕ) → at ≤ k → k < at + count → Left P k) → Walk count at P P
  walk_idle zero at P left = λ n. refl
  walk_idle (suc count) at P left = inr (left at (omega arith) (omega arith), walk_idle count (suc at) P (λ k low high. left k (omega arith) (omega arith)))

  -- ---- a walk from the first place, and its next steps

  pub walk_on_idle : (at stop : ℕ) (S P : Places) → Walk at 0 S P → at ≤ stop → ((k : ℕ) → at ≤ k → k < stop → Left P k) → Walk stop 0 S P
  walk_on_idle at stop S P w le left =
      let here : at ≡ 0 + at = omega arith in
      let all : at + (stop - at) ≡ stop = omega arith in
      let rest : Walk (stop - at) (0 + at) P P =
      subst (λ n. Walk (stop - at) n P P) here (walk_idle (stop - at) at P (λ k low high. left k low (omega arith))) in
      subst (λ n. Walk n 0 S P) all (walk_then at (stop - at) 0 S P P w rest)

  -- places that are not kept
  pub walk_on_past : (at stop : ℕ) (S P : Places) → Walk at 0 S P → at ≤ stop → ((k : ℕ) → at ≤ k → k < stop → IsKept f P k → ⊥) → Walk stop 0 S P
  walk_on_past at stop S P w le none = walk_on_idle at stop S P w le (λ k low high kept. absurd (none k low high kept))

  pub walk_on_taken : (at : ℕ) (S P : Places) → Walk at 0 S P → Taken P at → Walk (suc at) 0 S (added f P at)
  walk_on_taken at S P w taken =
      let here : at ≡ 0 + at = omega arith in
      let all : at + 1 ≡ suc at = omega arith in
      let step : Walk 1 at P (added f P at) = inl (taken, walk_none (suc at) (added f P at)) in
      subst (λ n. Walk n 0 S (added f P at)) all (walk_then at 1 0 S P (added f P at) w (subst (λ n. Walk 1 n P (added f P at)) here step))

  pub walk_on_taken_behind : (at : ℕ) (S P : Places) → Walk at 0 S P → Taken P at → Walk (at + size_at f at) 0 S (added f P at)
  walk_on_taken_behind at S P w taken =
      let some = nodes_some (part_at f at) in
      walk_on_past (suc at) (at + size_at f at) S (added f P at) (walk_on_taken at S P w taken) (omega arith)
      (λ k low high kept. kept.above at (added_self f P at) (low, high))

  -- ---- what a walk keeps

  pub walk_closed : (count at : ℕ) (P Q : Places) → Walk count at P Q → T.Closed (rep f P) → T.Closed (rep f Q)
  walk_closed zero at P Q w c = subst (λ X. T.Closed (rep f X)) (one_set P Q w) c
  walk_closed (suc count) at P Q (inl w) c = walk_closed count (suc at) (added f P at) Q w.1 w.0.1
  walk_closed (suc count) at P Q (inr w) c = walk_closed count (suc at) P Q w.1 c

  pub walk_apart : (count at : ℕ) (P Q : Places) → Walk count at P Q → AreApart f P → AreApart f Q
  walk_apart zero at P Q w h = subst (AreApart f) (one_set P Q w) h
  walk_apart (suc count) at P Q (inl w) h = walk_apart count (suc at) (added f P at) Q w.1 (apart_after f P at h w.0.0)
  walk_apart (suc count) at P Q (inr w) h = walk_apart count (suc at) P Q w.1 h

  -- ---- a walk changes nothing and takes nothing, or leaves fewer kept

  abbrev pub IsIdle : ℕ → ℕ → Places → Type 0
  IsIdle count at P = (k : ℕ) → at ≤ k → k < at + count → Left P k

  idle_more : (count at : ℕ) (P : Places) → Left P at → IsIdle count (suc at) P → IsIdle (suc count) at P
  idle_more count at P left idle k low high = elim (cases_lt at k) [
    | inl later ↦ idle k later (omega arith)
    | inr here ↦ let same : at ≡ k = omega arith in subst (Left P) same left
  ]

  pub walk_falls : (count at : ℕ) (P Q : Places) → Walk count at P Q → (AreSame P Q × IsIdle count at P) ⊎ (kept_count f Q < kept_count f P)
  walk_falls zero at P Q w = inl (w, λ k low high. absurd (omega arith))
  walk_falls (suc count) at P Q (inl w) =
      let fewer = fewer_after f P at w.0.0 in
      elim (walk_falls count (suc at) (added f P at) Q w.1) [
        | inl x ↦ let e = ap (kept_count f) (one_set (added f P at) Q x.0) in inr (omega arith)
        | inr lt ↦ inr (omega arith)
      ]
  walk_falls (suc count) at P Q (inr w) = elim (walk_falls count (suc at) P Q w.1) [
    | inl x ↦ inl (x.0, idle_more count at P w.0 x.1)
    | inr lt ↦ inr lt
  ]

  -- a place that is taken makes another set than the first one
  pub taken_other : (at : ℕ) (S P : Places) → Walk at 0 S P → Taken P at → AreSame S (added f P at) → ⊥
  taken_other at S P w taken same =
      let fewer = fewer_after f P at taken.0 in
      let e = ap (kept_count f) (one_set S (added f P at) same) in
      elim (walk_falls at 0 S P w) [
        | inl x ↦ let d = ap (kept_count f) (one_set S P x.0) in omega arith
        | inr lt ↦ omega arith
      ]

  -- ---- a walk leads to one set

  module _ (exclusive : IsExclusive T) where
    pub walk_one : (count at : ℕ) (P Q R : Places) → Walk count at P Q → Walk count at P R → AreSame Q R
    walk_one zero at P Q R v w = λ n. sym (v n) ∙ w n
    walk_one (suc count) at P Q R (inl v) (inl w) = walk_one count (suc at) (added f P at) Q R v.1 w.1
    walk_one (suc count) at P Q R (inl v) (inr w) = absurd (exclusive (rep f (added f P at)) v.0.1 (w.0 v.0.0))
    walk_one (suc count) at P Q R (inr v) (inl w) = absurd (exclusive (rep f (added f P at)) w.0.1 (v.0 w.0.0))
    walk_one (suc count) at P Q R (inr v) (inr w) = walk_one count (suc at) P Q R v.1 w.1
