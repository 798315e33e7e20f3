-- The first of a number of places that is not good.
use Rattle.std.proofs.Common.{◌≡◌, ℕ, ◌+◌, ◌<◌, ◌≤◌, Option, Some, None, subst, arith}
use Rattle.claim_check.specs.Bases.{IsFirst, IsFound}

module _ (Good : ℕ → Type 0) (count : ℕ) where
  pub bad_here : (k : ℕ) → k < count → ¬ Good k → ((i : ℕ) → i < k → Good i) → IsFound Good count (Some (k + 1))
  bad_here k lt bad before = (k, omega arith, (omega arith, lt, bad, λ i from less. before i less))

  pub all_good : (k : ℕ) → count ≤ k → ((i : ℕ) → i < k → Good i) → IsFound Good count None
  all_good k most before i lt = before i (omega (arith, lt, most))

  pub found_some : (r : Option ℕ) (n : ℕ) → r ≡ Some n → IsFound Good count r → IsFirst Good count n
  found_some r n e is = subst (IsFound Good count) e is

  pub found_none : (r : Option ℕ) → r ≡ None → IsFound Good count r → (k : ℕ) → k < count → Good k
  found_none r e is = subst (IsFound Good count) e is

  -- not all are good where one is the first that is not
  pub not_all : (n : ℕ) → IsFirst Good count n → ¬ ((k : ℕ) → k < count → Good k)
  not_all n (k, e, is) all = is.2 (all k is.1)
