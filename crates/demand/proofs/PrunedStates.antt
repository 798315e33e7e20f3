-- The earlier states that are found prune a state, and where it is pruned some are found.
use Rattle.std.proofs.Common.{◌≡◌, ℕ, ◌+◌, ◌<◌, ◌≤◌, [], Contains, inl, inr, refl, ap, arith, subst, Option, Some, None}
use Rattle.std.specs.Prelude.{◌&&◌}
use Rattle.ltl_syntax.specs.declared.node.Kind.{Kind}
use Rattle.ltl_syntax.specs.declared.node.Kind.TheVariants as Kinds
use Rattle.ltl_syntax.specs.Formula.{Formula}
use Rattle.ltl_closure.specs.Run.{States, IsPrunedAt, Triple, Pair, IsUnpruned}
use Rattle.demand.specs.Rows.{Rows, rows_of}
use Rattle.demand.specs.Closing.{is_one_carry}
use Rattle.demand.specs.Nearest.{nearest, where_true}
use Rattle.demand.specs.declared.pruning.Pruning.{Pruning}
use Rattle.demand.specs.declared.pruning.Pruned.{Pruned}
use Rattle.demand.specs.Pruning.{is_nothing_new, triple_with, triple_from, pair_from, pruning_at, pruned_by, pruned_at, prunings_below, Prunes}
use Rattle.demand.specs.declared.pruning.Pruning.TheVariants as prunings
use Rattle.demand.proofs.Finding.{some_same, some_none, none_or_some, nearest_found, nearest_none, all_none, none_all, all_member, where_some, where_none}
use Rattle.demand.proofs.Telling.{first_true, second_true, both_true, one_to, one_from, nothing_new_to, nothing_new_from}

pub is_pruned : (f : Formula) (kind : Kind) (i : ℕ) (r : States) (p : Pruning) → Prunes f r i kind p → IsPrunedAt f r i kind
is_pruned f Kinds.Infinite i r (prunings.Triple l j) w = Triple l j w.0 w.1 w.2 w.3 w.4
is_pruned f Kinds.Finite i r (prunings.Pair j) w = Pair j w.0 w.1
is_pruned f Kinds.Infinite i r (prunings.Pair j) w = absurd w
is_pruned f Kinds.Finite i r (prunings.Triple l j) w = absurd w

module _ (f : Formula) (i : ℕ) (r : States) where
  abbrev seen : Rows
  seen = rows_of f Kinds.Infinite r

  pub pruning_prunes : (kind : Kind) (p : Pruning) → pruning_at kind (rows_of f kind r) i ≡ Some p → Prunes f r i kind p
  pruning_prunes Kinds.Infinite p h =
      let w = nearest_found i (triple_from seen i) p h in
      let j = w.0 in
      let s = where_some (is_one_carry seen j i) (nearest j (triple_with seen i j)) p w.2 in
      let u = nearest_found j (triple_with seen i j) p s.1 in
      let l = u.0 in
      let one = is_one_carry seen l j in
      let old = is_nothing_new seen l j i in
      let z = where_some (one && old) (Some (prunings.Triple l j)) p u.2 in
      subst (Prunes f r i Kinds.Infinite) (some_same (prunings.Triple l j) p z.1) (
        u.1,
        w.1,
        one_to f Kinds.Infinite r l j (first_true one old z.0),
        one_to f Kinds.Infinite r j i s.0,
        nothing_new_to f Kinds.Infinite r l j i (second_true one old z.0),
      )
  pruning_prunes Kinds.Finite p h =
      let w = nearest_found i (pair_from (rows_of f Kinds.Finite r) i) p h in
      let s = where_some (is_one_carry (rows_of f Kinds.Finite r) w.0 i) (Some (prunings.Pair w.0)) p w.2 in
      subst (Prunes f r i Kinds.Finite) (some_same (prunings.Pair w.0) p s.1) (w.1, one_to f Kinds.Finite r w.0 i s.0)

  pub no_pruning : (kind : Kind) → IsPrunedAt f r i kind → pruning_at kind (rows_of f kind r) i ≡ None → ⊥
  no_pruning kind (Triple l j a b one two all) h =
      let carry = is_one_carry seen l j in
      let old = is_nothing_new seen l j i in
      let first =
      where_none (is_one_carry seen j i) (nearest j (triple_with seen i j)) (nearest_none i (triple_from seen i) h j b) (one_from f Kinds.Infinite r j i two) in
      let found = where_none (carry && old) (Some (prunings.Triple l j)) (nearest_none j (triple_with seen i j) first l a) in
      some_none (prunings.Triple l j) (found (both_true carry old (one_from f Kinds.Infinite r l j one) (nothing_new_from f Kinds.Infinite r l j i all)))
  no_pruning kind (Pair j b one) h =
      let rows = rows_of f Kinds.Finite r in
      let found = where_none (is_one_carry rows j i) (Some (prunings.Pair j)) (nearest_none i (pair_from rows i) h j b) in
      some_none (prunings.Pair j) (found (one_from f Kinds.Finite r j i one))

  pub unpruned_none : (kind : Kind) → (IsPrunedAt f r i kind → ⊥) → pruning_at kind (rows_of f kind r) i ≡ None
  unpruned_none kind not' = elim (none_or_some (pruning_at kind (rows_of f kind r) i)) [
    | inl none ↦ none
    | inr w ↦ absurd (not' (is_pruned f kind i r w.0 (pruning_prunes kind w.0 w.1)))
  ]

by_none : (i : ℕ) (o : Option Pruning) → pruned_by i o ≡ None → o ≡ None
by_none i (Some p) h = absurd (some_none (let w : Pruned = record { state = i; by = p } in w) h)
by_none i None h = refl

by_some : (i : ℕ) (o : Option Pruning) (w : Pruned) → pruned_by i o ≡ Some w → (i ≡ w.state) × (o ≡ Some w.by)
by_some i (Some p) w h =
    let made : Pruned = record { state = i; by = p } in
    let e = some_same made w h in
    (ap (λ (z : Pruned). z.state) e, ap (λ (z : Pruned). Some z.by) e)
by_some i None w h = cc

module _ (f : Formula) (kind : Kind) (k : ℕ) (r : States) where
  pub no_prunings : prunings_below kind (rows_of f kind r) (k + 1) ≡ [] → IsUnpruned f r k kind
  no_prunings h i le pruned =
      no_pruning f i r kind pruned (by_none i (pruning_at kind (rows_of f kind r) i) (all_none (k + 1) (pruned_at kind (rows_of f kind r)) h i (omega arith)))

  pub unpruned_no_prunings : IsUnpruned f r k kind → prunings_below kind (rows_of f kind r) (k + 1) ≡ []
  unpruned_no_prunings h = none_all (k + 1) (pruned_at kind (rows_of f kind r)) (λ i lt. ap (pruned_by i) (unpruned_none f i r kind (h i (omega arith))))

  pub prunings_found : (w : Pruned) → Contains (prunings_below kind (rows_of f kind r) (k + 1)) w
      → (w.state ≤ k) × Prunes f r w.state kind w.by × IsPrunedAt f r w.state kind
  prunings_found w h =
      let u = all_member (k + 1) (pruned_at kind (rows_of f kind r)) w h in
      let b = by_some u.0 (pruning_at kind (rows_of f kind r) u.0) w u.2 in
      let lt : u.0 < k + 1 = u.1 in
      let is : u.0 ≡ w.state = b.0 in
      let p = subst (λ n. Prunes f r n kind w.by) is (pruning_prunes f u.0 r kind w.by b.1) in
      (omega arith, p, is_pruned f kind w.state r w.by p)
