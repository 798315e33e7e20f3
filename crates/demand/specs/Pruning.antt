-- By which earlier states a state is pruned: found by looking at the rows of a run.
use Rattle.std.specs.Prelude.{◌≡◌, ℕ, ◌<◌, Bool, not, ◌&&◌, ◌||◌, List, length, Option, Some, None, IsTrue, Contains}
use Rattle.ltl_syntax.specs.declared.node.Kind.{Kind}
use Rattle.ltl_syntax.specs.declared.node.Kind.TheVariants as Kinds
use Rattle.ltl_syntax.specs.Formula.{Formula}
use Rattle.ltl_closure.specs.Norm.{Norm}
use Rattle.ltl_closure.specs.Closure.{eventualities}
use Rattle.ltl_closure.specs.Run.{States, carry, is_pending, IsFulfilledIn}
use Rattle.demand.specs.declared.pruning.Pruning.{Pruning}
use Rattle.demand.specs.declared.pruning.Pruning.TheVariants as prunings
use Rattle.demand.specs.declared.pruning.Pruned.{Pruned}
use Rattle.demand.specs.Values.{value_at, passes_below}
use Rattle.demand.specs.Rows.{Rows}
use Rattle.demand.specs.Nearest.{nearest, where_true, all_found}
use Rattle.demand.specs.Closing.{is_one_carry, is_done}

-- where eventuality m + 1 is pending at state i and fulfilled after state j, it was fulfilled between l and j already
abbrev pub is_old : Rows → ℕ → ℕ → ℕ → ℕ → Bool
is_old rows l j i m = not (value_at (rows i).pending m) || (not (is_done rows j i m) || is_done rows l j m)

-- so it is with each eventuality
abbrev pub is_nothing_new : Rows → ℕ → ℕ → ℕ → Bool
is_nothing_new rows l j i = passes_below (length (rows i).pending) (is_old rows l j i)

-- the triple of l and j, where it prunes state i; that j has the carry of state i is asked elsewhere
abbrev pub triple_with : Rows → ℕ → ℕ → ℕ → Option Pruning
triple_with rows i j l = where_true (is_one_carry rows l j && is_nothing_new rows l j i) (Some (prunings.Triple l j))

-- the triple of j and the nearest l, where one prunes state i
abbrev pub triple_from : Rows → ℕ → ℕ → Option Pruning
triple_from rows i j = where_true (is_one_carry rows j i) (nearest j (triple_with rows i j))

-- the pair of j, where it prunes state i
abbrev pub pair_from : Rows → ℕ → ℕ → Option Pruning
pair_from rows i j = where_true (is_one_carry rows j i) (Some (prunings.Pair j))

-- how state i is pruned: by the nearest j for which it is
abbrev pub pruning_at : Kind → Rows → ℕ → Option Pruning
pruning_at Kinds.Infinite rows i = nearest i (triple_from rows i)
pruning_at Kinds.Finite rows i = nearest i (pair_from rows i)

-- a state and how it is pruned
abbrev pub pruned_by : ℕ → Option Pruning → Option Pruned
pruned_by i (Some by) = Some (record { state = i; by = by })
pruned_by i None = None

-- state i and how it is pruned, where it is
abbrev pub pruned_at : Kind → Rows → ℕ → Option Pruned
pruned_at kind rows i = pruned_by i (pruning_at kind rows i)

-- the pruned ones of the states 0 to n - 1, in their order
abbrev pub prunings_below : Kind → Rows → ℕ → List Pruned
prunings_below kind rows n = all_found n (pruned_at kind rows)

-- these earlier states prune state i
abbrev pub Prunes : Formula → States → ℕ → Kind → Pruning → Type 0
Prunes f r i Kinds.Infinite (prunings.Triple l j) = (l < j) × (j < i) × (carry f (r l) ≡ carry f (r j)) × (carry f (r j) ≡ carry f (r i))
    × ((e : Norm) → Contains (eventualities f) e → IsTrue (is_pending (r i) e) → IsFulfilledIn r j i e → IsFulfilledIn r l j e)
Prunes f r i Kinds.Finite (prunings.Pair j) = (j < i) × (carry f (r j) ≡ carry f (r i))
Prunes f r i Kinds.Infinite (prunings.Pair j) = ⊥
Prunes f r i Kinds.Finite (prunings.Triple l j) = ⊥
