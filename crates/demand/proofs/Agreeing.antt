-- What is found depends on the rows up to the last state alone.
use Rattle.std.proofs.Common.{◌≡◌, ℕ, zero, suc, ◌+◌, ◌<◌, ◌≤◌, Bool, not, ◌&&◌, ◌||◌, refl, ap, ap₂, ◌∙◌, arith, length, Option, Some, if◌then◌else◌}
use Rattle.std.specs.Prelude.{nat_lt, is_some}
use Rattle.ltl_syntax.specs.declared.node.Kind.{Kind}
use Rattle.ltl_syntax.specs.declared.node.Kind.TheVariants as Kinds
use Rattle.ltl_run.specs.declared.run_state.Close.{Close}
use Rattle.ltl_run.specs.declared.run_state.Close.TheVariants as closes
use Rattle.demand.specs.Rows.{Row, Rows}
use Rattle.demand.specs.Values.{value_at, difference, are_false, passes_below}
use Rattle.demand.specs.Closing.{is_one_carry, is_done, is_met, all_met, loop_to, close_of}
use Rattle.demand.specs.Nearest.{nearest, where_true}
use Rattle.demand.specs.Pruning.{is_old, is_nothing_new, triple_with, triple_from, pair_from, pruning_at, pruned_by, pruned_at, prunings_below}
use Rattle.demand.specs.declared.pruning.Pruning.TheVariants as prunings
use Rattle.demand.proofs.Finding.{nearest_same, found_same}

passes_same : (n : ℕ) (test other : ℕ → Bool) → ((m : ℕ) → test m ≡ other m) → passes_below n test ≡ passes_below n other
passes_same zero test other h = refl
passes_same (suc n) test other h = ap₂ ◌&&◌ (passes_same n test other h) (h n)

module _ (a b : Rows) (k : ℕ) (same : (i : ℕ) → i ≤ k → a i ≡ b i) where
  done_same : (l i m : ℕ) → i ≤ k → is_done a l i m ≡ is_done b l i m
  done_same l zero m le = refl
  done_same l (suc i) m le =
      let next : Bool → Row → Bool = λ x row. nat_lt l (suc i) && (x || value_at row.fulfilled m) in
      ap₂ next (done_same l i m (omega arith)) (same (suc i) le)

  one_same : (l i : ℕ) → l ≤ k → i ≤ k → is_one_carry a l i ≡ is_one_carry b l i
  one_same l i ll il = ap₂ (λ (x y : Row). not (is_some (difference x.carry y.carry))) (same l ll) (same i il)

  met_same : (l i : ℕ) → i ≤ k → all_met a l i ≡ all_met b l i
  met_same l i le =
      passes_same (length (a i).pending) (is_met a l i) (λ m. not (value_at (a i).pending m) || is_done b l i m)
      (λ m. ap (λ x. not (value_at (a i).pending m) || x) (done_same l i m le))
      ∙ ap (λ (row : Row). passes_below (length row.pending) (λ m. not (value_at row.pending m) || is_done b l i m)) (same i le)

  new_same : (l j i : ℕ) → j ≤ k → i ≤ k → is_nothing_new a l j i ≡ is_nothing_new b l j i
  new_same l j i jl il =
      passes_same (length (a i).pending) (is_old a l j i) (λ m. not (value_at (a i).pending m) || (not (is_done b j i m) || is_done b l j m))
      (λ m. ap₂ (λ x y. not (value_at (a i).pending m) || (not x || y)) (done_same j i m il) (done_same l j m jl))
      ∙ ap (λ (row : Row). passes_below (length row.pending) (λ m. not (value_at row.pending m) || (not (is_done b j i m) || is_done b l j m))) (same i il)

  loop_same : (l : ℕ) → l < k → loop_to a k l ≡ loop_to b k l
  loop_same l lt = ap (λ t. where_true t (Some (closes.Loop l))) (ap₂ ◌&&◌ (one_same l k (omega arith) (omega arith)) (met_same l k (omega arith)))

  pub close_same : (kind : Kind) → close_of kind a k ≡ close_of kind b k
  close_same Kinds.Infinite =
      ap₂ (λ (row : Row) (o : Option Close). if are_false row.refused then Some closes.Empty else o) (same k (omega arith))
      (nearest_same k (loop_to a k) (loop_to b k) loop_same)
  close_same Kinds.Finite = ap (λ (row : Row). where_true (are_false row.refused) (Some closes.End)) (same k (omega arith))

  with_same : (i j l : ℕ) → i ≤ k → j ≤ k → l < j → triple_with a i j l ≡ triple_with b i j l
  with_same i j l il jl lt =
      ap (λ t. where_true t (Some (prunings.Triple l j))) (ap₂ ◌&&◌ (one_same l j (omega arith) jl) (new_same l j i jl il))

  from_same : (i j : ℕ) → i ≤ k → j < i → triple_from a i j ≡ triple_from b i j
  from_same i j il lt =
      ap₂ where_true (one_same j i (omega arith) il) (nearest_same j (triple_with a i j) (triple_with b i j) (λ l less. with_same i j l il (omega arith) less))

  pub pruning_same : (kind : Kind) (i : ℕ) → i ≤ k → pruning_at kind a i ≡ pruning_at kind b i
  pruning_same Kinds.Infinite i le = nearest_same i (triple_from a i) (triple_from b i) (λ j lt. from_same i j le lt)
  pruning_same Kinds.Finite i le = nearest_same i (pair_from a i) (pair_from b i)
      (λ j lt. ap (λ t. where_true t (Some (prunings.Pair j))) (one_same j i (omega arith) le))

  pub prunings_same : (kind : Kind) → prunings_below kind a (k + 1) ≡ prunings_below kind b (k + 1)
  prunings_same kind = found_same (k + 1) (pruned_at kind a) (pruned_at kind b) (λ i lt. ap (pruned_by i) (pruning_same kind i (omega arith)))
