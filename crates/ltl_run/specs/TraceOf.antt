-- The rules by which a run is accepted, and the trace that an accepted run gives.
use Rattle.std.specs.Prelude.{◌≡◌, ℕ, suc, ◌+◌, ◌<◌, ◌≤◌, List, [], ◌∷◌, length, slice_index_or, take, drop, Contains, IsTrue, IsFalse, ◌↔◌}
use Rattle.ltl_syntax.specs.declared.node.Kind.{Kind}
use Rattle.ltl_syntax.specs.declared.node.Kind.TheVariants as Kinds
use Rattle.ltl_syntax.specs.Formula.{Formula, Atom}
use Rattle.ltl_word.specs.declared.trace.Trace.{Trace}
use Rattle.ltl_word.specs.declared.trace.Trace.TheVariants.{Infinite, Finite}
use Rattle.ltl_word.specs.Trace.{Names}
use Rattle.ltl_word.specs.Holds.{name_of}
use Rattle.ltl_closure.specs.Norm.{Norm, NLetter, NNext}
use Rattle.ltl_closure.specs.Closure.{closure, nexts, eventualities}
use Rattle.ltl_closure.specs.Run.{RunState, States, carry, is_pending, IsFulfilledIn}
use Rattle.ltl_run.specs.declared.run_state.Close.{Close}
use Rattle.ltl_run.specs.declared.run_state.Close.TheVariants as closes

-- state k closes to state l: they have one carry, and each eventuality that is pending at k is fulfilled in between
pub record ClosesTo (f : Formula) (r : States) (l k : ℕ) : Type 0 where
  pub earlier : l < k
  pub one : carry f (r l) ≡ carry f (r k)
  pub fulfilled : (e : Norm) → Contains (eventualities f) e → IsTrue (is_pending (r k) e) → IsFulfilledIn r l k e

-- the rule accepts a run of the kind whose last state is k
abbrev pub Accepts : Close → Formula → States → ℕ → Kind → Type 0
Accepts closes.Empty f r k Kinds.Infinite = (e : Norm) → Contains (nexts f) e → IsFalse (r k e)
Accepts (closes.Loop l) f r k Kinds.Infinite = ClosesTo f r l k
Accepts closes.End f r k Kinds.Finite = (a : Norm) → Contains (closure f) (NNext a) → IsFalse (r k (NNext a))
Accepts closes.Empty f r k Kinds.Finite = ⊥
Accepts (closes.Loop l) f r k Kinds.Finite = ⊥
Accepts closes.End f r k Kinds.Infinite = ⊥

-- the names are those of the letters that are true, and no others
pub record Shows (f : Formula) (s : RunState) (names : Names) : Type 0 where
  pub letters : (p : Atom) → Contains (closure f) (NLetter p) → IsTrue (s (NLetter p)) ↔ Contains names (name_of p)
  pub only : (name : List ℕ) → Contains names name → (p : Atom) × Contains (closure f) (NLetter p) × (name ≡ name_of p)

-- states 0 to l, and then l+1 to k for ever
pub record IsLoopTrace (f : Formula) (r : States) (l k : ℕ) (stem loop_part : List Names) : Type 0 where
  pub stem_length : length stem ≡ suc l
  pub loop_length : length loop_part + l ≡ k
  pub first : (i : ℕ) → i ≤ l → Shows f (r i) (slice_index_or stem i [])
  pub second : (i : ℕ) → i < length loop_part → Shows f (r (suc l + i)) (slice_index_or loop_part i [])

-- states 0 to k, whether or not one state without letters follows for ever
pub record AreShown (f : Formula) (r : States) (k : ℕ) (states : List Names) : Type 0 where
  pub states_length : length states ≡ suc k
  pub first : (i : ℕ) → i ≤ k → Shows f (r i) (slice_index_or states i [])

-- the trace of the run that closes by the rule
abbrev pub GivesTrace : Formula → States → ℕ → Close → Trace → Type 0
GivesTrace f r k closes.Empty t = (stem : List Names) × (t ≡ Infinite stem ([] ∷ [])) × AreShown f r k stem
GivesTrace f r k (closes.Loop l) t = (stem loop_part : List Names) × (t ≡ Infinite stem loop_part) × IsLoopTrace f r l k stem loop_part
GivesTrace f r k closes.End t = (states : List Names) × (t ≡ Finite states) × AreShown f r k states

-- the trace that these states are where the rule closes them
abbrev pub closed_by : Close → List Names → Trace
closed_by closes.Empty states = Infinite states ([] ∷ [])
closed_by (closes.Loop l) states = Infinite (take (l + 1) states) (drop (l + 1) states)
closed_by closes.End states = Finite states

-- the rule is one of the kind, and names no state but the first k
abbrev pub IsRuleOf : Close → ℕ → Kind → Type 0
IsRuleOf closes.Empty k Kinds.Infinite = Unit {0}
IsRuleOf (closes.Loop l) k Kinds.Infinite = l < k
IsRuleOf closes.End k Kinds.Finite = Unit {0}
IsRuleOf closes.Empty k Kinds.Finite = ⊥
IsRuleOf (closes.Loop l) k Kinds.Finite = ⊥
IsRuleOf closes.End k Kinds.Infinite = ⊥

-- where a rule names a state, it is one of the first n
abbrev pub HasStem : Close → ℕ → Type 0
HasStem closes.Empty n = Unit {0}
HasStem (closes.Loop l) n = l < n
HasStem closes.End n = Unit {0}
