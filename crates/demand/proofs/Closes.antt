-- The rule that is found accepts the run, and where the run is accepted one is found.
use Rattle.std.proofs.Common.{◌≡◌, ℕ, Bool, IsTrue, IsFalse, ◌⊎◌, Option, inl, inr, refl, subst, Contains, Some, None}
use Rattle.std.specs.Prelude.{filter}
use Rattle.ltl_syntax.specs.declared.node.Kind.{Kind}
use Rattle.ltl_syntax.specs.declared.node.Kind.TheVariants as Kinds
use Rattle.ltl_syntax.specs.Formula.{Formula}
use Rattle.ltl_closure.specs.Norm.{Norm, NNext}
use Rattle.ltl_closure.specs.Closure.{closure, nexts, is_next}
use Rattle.ltl_closure.specs.Run.{States, IsAccepted, Empty, Loop, End}
use Rattle.ltl_closure.proofs.Lists.{Contains-filter, Contains-from_filter}
use Rattle.ltl_run.specs.declared.run_state.Close.{Close}
use Rattle.ltl_run.specs.declared.run_state.Close.TheVariants as closes
use Rattle.ltl_run.specs.TraceOf.{Accepts, ClosesTo}
use Rattle.enc_layout.specs.Clauses.{is_strong_next}
use Rattle.demand.specs.Rows.{rows_of}
use Rattle.demand.specs.Values.{are_false}
use Rattle.demand.specs.Closing.{is_one_carry, all_met, closes_to, loop_to, close_of}
use Rattle.demand.specs.Nearest.{nearest, where_true}
use Rattle.demand.proofs.Finding.{some_same, some_none, none_or_some, nearest_found, nearest_none, where_some, where_none, if_cases}
use Rattle.demand.proofs.Telling.{first_true, second_true, both_true, none_true, true_none, one_to, one_from, all_met_to, all_met_from}

clash : (a : Bool) → IsTrue a → IsFalse a → ⊥
clash a h k = cc

a_strong_next : (f : Formula) (e : Norm) → Contains (closure f) e → IsTrue (is_strong_next e) → (r : Norm → Bool)
    → ((a : Norm) → Contains (closure f) (NNext a) → IsFalse (r (NNext a))) → IsFalse (r e)
a_strong_next f (NNext a) m t r none = none a m
a_strong_next f e m t r none = cc

module _ (f : Formula) (k : ℕ) (r : States) where
  loop_found : (close : Close) → nearest k (loop_to (rows_of f Kinds.Infinite r) k) ≡ Some close
      → Accepts close f r k Kinds.Infinite
  loop_found close h =
      let w = nearest_found k (loop_to (rows_of f Kinds.Infinite r) k) close h in
      let l = w.0 in
      let s = where_some (closes_to (rows_of f Kinds.Infinite r) l k) (Some (closes.Loop l)) close w.2 in
      let one = is_one_carry (rows_of f Kinds.Infinite r) l k in
      let done = all_met (rows_of f Kinds.Infinite r) l k in
      let to : ClosesTo f r l k = record {
        earlier = w.1;
        one = one_to f Kinds.Infinite r l k (first_true one done s.0);
        fulfilled = all_met_to f Kinds.Infinite r l k (second_true one done s.0);
      } in
      subst (λ c. Accepts c f r k Kinds.Infinite) (some_same (closes.Loop l) close s.1) to

  abbrev ends : Bool
  ends = are_false (rows_of f Kinds.Infinite r k).refused

  -- by its end or to a state
  by_rule : (found : Option Close) → close_of Kinds.Infinite (rows_of f Kinds.Infinite r) k ≡ found
      → (IsTrue ends × (Some closes.Empty ≡ found)) ⊎ (IsFalse ends × (nearest k (loop_to (rows_of f Kinds.Infinite r) k) ≡ found))
  by_rule found h = if_cases ends (Some closes.Empty) (nearest k (loop_to (rows_of f Kinds.Infinite r) k)) found h

  pub close_accepts : (kind : Kind) (close : Close) → close_of kind (rows_of f kind r) k ≡ Some close → Accepts close f r k kind
  close_accepts Kinds.Infinite close h =
      elim (by_rule (Some close) h) [
        | inl w ↦ subst (λ c. Accepts c f r k Kinds.Infinite) (some_same closes.Empty close w.1) (none_true (r k) (nexts f) w.0)
        | inr w ↦ loop_found close w.1
      ]
  close_accepts Kinds.Finite close h =
      let w = where_some (are_false (rows_of f Kinds.Finite r k).refused) (Some closes.End) close h in
      subst (λ c. Accepts c f r k Kinds.Finite) (some_same closes.End close w.1)
      (λ a m. none_true (r k) (filter is_strong_next (nexts f)) w.0 (NNext a)
      (Contains-filter is_strong_next (nexts f) (NNext a) (Contains-filter is_next (closure f) (NNext a) m refl) refl))

  pub no_close_rejects : (kind : Kind) → IsAccepted f r k kind → close_of kind (rows_of f kind r) k ≡ None → ⊥
  no_close_rejects kind (Empty none) h =
      elim (by_rule None h) [
        | inl w ↦ some_none closes.Empty w.1
        | inr w ↦ clash ends (true_none (r k) (nexts f) none) w.0
      ]
  no_close_rejects kind (Loop l lt one done) h =
      elim (by_rule None h) [
        | inl w ↦ some_none closes.Empty w.1
        | inr w ↦ some_none (closes.Loop l) (where_none (closes_to (rows_of f Kinds.Infinite r) l k) (Some (closes.Loop l))
            (nearest_none k (loop_to (rows_of f Kinds.Infinite r) k) w.1 l lt)
            (both_true (is_one_carry (rows_of f Kinds.Infinite r) l k) (all_met (rows_of f Kinds.Infinite r) l k)
            (one_from f Kinds.Infinite r l k one) (all_met_from f Kinds.Infinite r l k done)))
      ]
  no_close_rejects kind (End none) h =
      some_none closes.End (where_none (are_false (rows_of f Kinds.Finite r k).refused) (Some closes.End) h
      (true_none (r k) (filter is_strong_next (nexts f)) (λ e m.
      let w = Contains-from_filter is_strong_next (nexts f) e m in
      a_strong_next f e (Contains-from_filter is_next (closure f) e w.0).0 w.1 (r k) none)))

  pub accepted_closes : (kind : Kind) → IsAccepted f r k kind → (close : Close) × (close_of kind (rows_of f kind r) k ≡ Some close)
  accepted_closes kind acc = elim (none_or_some (close_of kind (rows_of f kind r) k)) [
    | inl none ↦ absurd (no_close_rejects kind acc none)
    | inr w ↦ w
  ]
