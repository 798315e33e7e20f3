-- The states that are shown give the trace of the run.
use Rattle.std.proofs.Common.{◌≡◌, ℕ, suc, ◌+◌, ◌<◌, List, [], ◌∷◌, get_or, take, drop, Contains, refl, sym, subst, arith, length-drop}
use Rattle.std.proofs.lemmas.List.{get_or-take, get_or-drop, length-take}
use Rattle.ltl_syntax.specs.declared.node.Kind.{Kind}
use Rattle.ltl_syntax.specs.declared.node.Kind.TheVariants as Kinds
use Rattle.ltl_syntax.specs.Formula.{Formula}
use Rattle.ltl_word.specs.Trace.{Names}
use Rattle.ltl_closure.specs.Run.{States}
use Rattle.ltl_closure.proofs.Lists.{Contains-nil, Contains-here}
use Rattle.ltl_run.specs.declared.run_state.Close.{Close}
use Rattle.ltl_run.specs.declared.run_state.Close.TheVariants as closes
use Rattle.ltl_run.specs.TraceOf.{Accepts, Shows, AreShown, IsLoopTrace, GivesTrace, closed_by}

loop_trace : (f : Formula) (r : States) (l k : ℕ) (shown : List Names) → l < k → AreShown f r k shown
    → IsLoopTrace f r l k (take (l + 1) shown) (drop (l + 1) shown)
loop_trace f r l k shown lt are = let n = are.states_length in record {
  stem_length = omega (arith, length-take (l + 1) shown);
  loop_length = omega (arith, length-drop (l + 1) shown);
  first = λ i le. subst (Shows f (r i)) (sym (get_or-take (l + 1) shown i [] (omega arith))) (are.first i (omega arith));
  second = λ i h.
      let e : l + 1 + i ≡ suc l + i = omega arith in
      subst (Shows f (r (suc l + i))) (sym (get_or-drop (l + 1) shown i []))
      (subst (λ j. Shows f (r (suc l + i)) (get_or shown j [])) (sym e) (are.first (suc l + i) (omega (arith, length-drop (l + 1) shown))));
}

pub shown_gives : (f : Formula) (r : States) (k : ℕ) (kind : Kind) (close : Close) (shown : List Names) → Accepts close f r k kind → AreShown f r k shown
    → GivesTrace f r k close (closed_by close shown)
shown_gives f r k kind closes.Empty shown acc are = (shown, refl, are)
shown_gives f r k Kinds.Infinite (closes.Loop l) shown acc are = (take (l + 1) shown, drop (l + 1) shown, refl, loop_trace f r l k shown acc.earlier are)
shown_gives f r k Kinds.Finite (closes.Loop l) shown acc are = absurd acc
shown_gives f r k kind closes.End shown acc are = (shown, refl, are)

-- a state without names
pub no_names : (names : Names) → ((name : List ℕ) → Contains names name → Contains {X = List ℕ} [] name) → names ≡ []
no_names [] h = refl
no_names (x ∷ xs) h = absurd (Contains-nil x (h x (Contains-here x xs)))
