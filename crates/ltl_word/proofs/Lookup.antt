-- What a binary search for a name answers on names in ascending order.
use Rattle.std.proofs.Common.{◌≡◌, ℕ, ◌≤◌, ◌↔◌, List, length, get_or, Contains, Ok, Err, Less, Equal, Greater, Ordering, Result, is_ok, IsTrue, refl, subst, ap}
use Rattle.std.proofs.Common.{◌∙◌, arith, inl, inr}
use Rattle.std.proofs.lemmas.Bool.{cases_lt}
use Rattle.std.proofs.lemmas.Cmp.{nat_list_cmp_total, tied_itself}
use Rattle.std.proofs.lemmas.Map.Keys.{Less-from_sorted}
use Rattle.std.proofs.lemmas.Map.Lookups.{exact_bytes}
use Rattle.std.specs.Cmp.Lexicographic.{slice_cmp}
use Rattle.std.specs.List.Sorted.{IsBinarySearchResult, IsNonDecreasingBy, IsPartitionPoint, IsSearchInRange}
use Rattle.std.specs.Ordering.{nat_cmp, ordering_index}
use Rattle.ltl_word.specs.State.{IsAscending}
use Rattle.ltl_word.specs.Trace.{Names}

-- a name that stands before another compares no greater to a third
index_rises : (x y name : List ℕ) (o : Ordering)
    → slice_cmp nat_cmp x y ≡ Less → slice_cmp nat_cmp y name ≡ o → ordering_index (slice_cmp nat_cmp x name) ≤ ordering_index o
index_rises x y name Less lt e = let d : slice_cmp nat_cmp x name ≡ Less = nat_list_cmp_total.trans x y name lt e in rw d (omega arith)
index_rises x y name Equal lt e = let same : y ≡ name = exact_bytes y name e in
    let d : slice_cmp nat_cmp x name ≡ Less = subst (λ z. slice_cmp nat_cmp x z ≡ Less) same lt in rw d (omega arith)
index_rises x y name Greater lt e = at_most_two (slice_cmp nat_cmp x name) where
  at_most_two : (o : Ordering) → ordering_index o ≤ 2
  at_most_two Less = omega arith
  at_most_two Equal = omega arith
  at_most_two Greater = omega arith

module _ (names : Names) (sorted : IsAscending names) (name : List ℕ) where
  rises : IsNonDecreasingBy (λ y. ordering_index (slice_cmp nat_cmp y name)) names
  rises i j d le lt = elim (cases_lt i j) [
    | inl before ↦ index_rises (get_or names i d) (get_or names j d) name (slice_cmp nat_cmp (get_or names j d) name)
        (Less-from_sorted (slice_cmp nat_cmp) names i j d sorted before lt) refl
    | inr after ↦ let same : i ≡ j = omega arith in
        subst (λ k. ordering_index (slice_cmp nat_cmp (get_or names i d) name) ≤ ordering_index (slice_cmp nat_cmp (get_or names k d) name)) same (omega arith)
  ]

  not_found : (i : ℕ) → IsPartitionPoint (λ y. slice_cmp nat_cmp y name ≡ Less) (λ y. slice_cmp nat_cmp y name ≡ Greater) names i → Contains names name → ⊥
  not_found i parted (k, lt, at) =
      let itself : slice_cmp nat_cmp (get_or names k name) name ≡ Equal = ap (λ z. slice_cmp nat_cmp z name) at ∙ tied_itself nat_list_cmp_total name in
      elim (cases_lt k i) [
        | inl before ↦ let e : slice_cmp nat_cmp (get_or names k name) name ≡ Less = parted.0 k name (omega arith) before in cc
        | inr after ↦ let e : slice_cmp nat_cmp (get_or names k name) name ≡ Greater = parted.1 k name after lt in cc
      ]

  pub found_or_not : (r : Result ℕ ℕ) → IsSearchInRange r (length names) → IsBinarySearchResult (λ y. slice_cmp nat_cmp y name) names r
      → IsTrue (is_ok r) ↔ Contains names name
  found_or_not (Ok at) in_range found = (λ ok. (at, in_range, exact_bytes (get_or names at name) name (found name)), λ c. refl)
  found_or_not (Err at) in_range parted = (λ ok. cc, λ c. absurd (not_found at (parted rises) c))
