-- Which occurrences are kept is decided, and adding a kept one leaves fewer.
use Rattle.std.proofs.Common.{◌≡◌, ℕ, zero, suc, ◌+◌, ◌<◌, ◌≤◌, inl, inr, subst, arith, sym, refl, Bool, true, false, IsTrue, IsFalse, cond}
use Rattle.std.proofs.lemmas.Bool.{cases_Bool, cases_lt, false≢true}
use native.Mathlib.Decide.{dec_lt}
use Rattle.ltl_syntax.specs.Formula.{Formula, nodes_in}
use Rattle.ltl_syntax.specs.Replacement.{Places, IsUnder, is_under, IsKept, added}
use Rattle.ltl_syntax.proofs.Places.{under_true, under_from, kept_before, not_kept_after}
use Rattle.ltl_word.proofs.Search.{×_decided, IsTrue_decided, first_or_none}
use Rattle.ltl_closure.specs.Decide.{is_yes}

module _ (f : Formula) where
  -- ---- how many places are kept

  module _ (P : Places) where
    above_decided : (n : ℕ) → Dec ((m : ℕ) → IsTrue (P m) → IsUnder f n m → ⊥)
    above_decided n =
        elim (first_or_none (λ m. IsTrue (P m) × IsTrue (is_under f n m)) (λ m. ×_decided (IsTrue_decided (P m)) (IsTrue_decided (is_under f n m))) n) [
          | inl w ↦ no (λ h. h w.0 w.2.0 (under_true f n w.0 w.2.1))
          | inr none ↦ yes (λ m p u. let x = u.0 in none m x (p, under_from f n m u))
        ]

    false_decided : (b : Bool) → Dec (IsFalse b)
    false_decided true = no (λ e. cc)
    false_decided false = yes refl

    pub kept_decided : (n : ℕ) → Dec (IsKept f P n)
    kept_decided n = by (dec_lt n (nodes_in f)) (false_decided (P n)) (above_decided n) where
      by : Dec (n < nodes_in f) → Dec (IsFalse (P n)) → Dec ((m : ℕ) → IsTrue (P m) → IsUnder f n m → ⊥) → Dec (IsKept f P n)
      by (yes a) (yes b) (yes c) = yes (record { there = a; free = b; above = c })
      by (no a) b c = no (λ h. a h.there)
      by (yes a) (no b) c = no (λ h. b h.free)
      by (yes a) (yes b) (no c) = no (λ h. c h.above)

    pub is_kept : ℕ → Bool
    is_kept n = is_yes (kept_decided n)

    yes_true : {A : Type 0} (d : Dec A) → A → IsTrue (is_yes d)
    yes_true (yes a) x = refl
    yes_true (no h) x = absurd (h x)

    true_yes : {A : Type 0} (d : Dec A) → IsTrue (is_yes d) → A
    true_yes (yes a) e = a
    true_yes (no h) e = cc

    pub is_kept-from : (n : ℕ) → IsKept f P n → IsTrue (is_kept n)
    unfolding is_kept
    is_kept-from n h = yes_true (kept_decided n) h

    pub is_kept-true : (n : ℕ) → IsTrue (is_kept n) → IsKept f P n
    unfolding is_kept
    is_kept-true n e = true_yes (kept_decided n) e

-- how many numbers below n pass
pub count_below : (ℕ → Bool) → ℕ → ℕ
count_below p zero = 0
count_below p (suc n) = cond (p n) 1 0 + count_below p n

module _ (p q : ℕ → Bool) (gives : (k : ℕ) → IsTrue (p k) → IsTrue (q k)) where
  one_le : (a b : Bool) → (IsTrue a → IsTrue b) → cond a 1 0 ≤ cond b 1 0
  one_le true true h = omega arith
  one_le true false h = absurd (false≢true (h refl))
  one_le false true h = omega arith
  one_le false false h = omega arith

  count_le : (n : ℕ) → count_below p n ≤ count_below q n
  unfolding count_below
  count_le zero = omega arith
  count_le (suc n) = let i = count_le n in let j = one_le (p n) (q n) (gives n) in omega arith

  one_lt : (a b : Bool) → IsFalse a → IsTrue b → cond a 1 0 < cond b 1 0
  one_lt true b e d = absurd (false≢true (sym e))
  one_lt false true e d = omega arith
  one_lt false false e d = absurd (false≢true d)

  pub count_lt : (n m : ℕ) → m < n → IsFalse (p m) → IsTrue (q m) → count_below p n < count_below q n
  unfolding count_below
  count_lt zero m lt e d = absurd (omega arith)
  count_lt (suc n) m lt e d = elim (cases_lt m n) [
    | inl below ↦ let i = count_lt n m below e d in let j = one_le (p n) (q n) (gives n) in omega arith
    | inr here ↦
        let same : m ≡ n = omega arith in
        let i = count_le n in
        let j = one_lt (p n) (q n) (subst (λ k. IsFalse (p k)) same e) (subst (λ k. IsTrue (q k)) same d) in omega arith
  ]

-- how many occurrences are kept
pub kept_count : Formula → Places → ℕ
kept_count f P = count_below (is_kept f P) (nodes_in f)

count_few : (p : ℕ → Bool) (n : ℕ) → count_below p n ≤ n
unfolding count_below
count_few p zero = omega arith
count_few p (suc n) = let i = count_few p n in let j = one_few (p n) in omega arith where
  one_few : (b : Bool) → cond b 1 0 ≤ 1
  one_few true = omega arith
  one_few false = omega arith

pub kept_few : (f : Formula) (P : Places) → kept_count f P ≤ nodes_in f
unfolding kept_count
kept_few f P = count_few (is_kept f P) (nodes_in f)

-- adding a kept place leaves fewer
pub fewer_after : (f : Formula) (P : Places) (n : ℕ) → IsKept f P n → kept_count f (added f P n) < kept_count f P
unfolding kept_count
fewer_after f P n kept =
    count_lt (is_kept f (added f P n)) (is_kept f P) (λ k e. is_kept-from f P k (kept_before f P n k (is_kept-true f (added f P n) k e)))
    (nodes_in f) n kept.there
    (elim (cases_Bool (is_kept f (added f P n) n)) [ inl e ↦ absurd (not_kept_after f P n (is_kept-true f (added f P n) n e)) | inr e ↦ e ])
    (is_kept-from f P n kept)
