-- What a formula of the step's form says of two states is what holds of them on a trace.
use Rattle.std.proofs.Common.{ℕ, suc, ◌↔◌}
use Rattle.ltl_syntax.specs.declared.node.Kind.TheVariants as Kinds
use Rattle.ltl_syntax.specs.Formula.{Formula, Const, Letter, Unary, Binary}
use Rattle.ltl_syntax.specs.declared.node.UnaryOp.TheVariants.{Next, Not}
use Rattle.ltl_syntax.specs.declared.node.BinaryOp.TheVariants.{And, Iff, Implies, Or}
use Rattle.ltl_word.specs.declared.trace.Trace.{Trace}
use Rattle.ltl_word.specs.declared.trace.Trace.TheVariants.{Infinite, Finite}
use Rattle.ltl_word.specs.Trace.{Names, IsOfKind, IsPosition, state_at}
use Rattle.ltl_word.specs.Holds.{Holds, name_of}
use Rattle.ltl_word.specs.Propositional.{IsPropositional}
use Rattle.ltl_word.proofs.Steps.{next_is}
use Rattle.system_check.specs.TwoStates.{IsStepForm, Two, AreSameSet}
use Rattle.system_check.proofs.Iff.{same, not_same, and_same, or_same, implies_same, iff_same}

-- each number is a position of an infinite trace
pub is_position : (t : Trace) (i : ℕ) → IsOfKind t Kinds.Infinite → IsPosition t i
is_position (Infinite stem loop_part) i is = tt
is_position (Finite states) i is = absurd is

pub start_is_step : (f : Formula) → IsPropositional f → IsStepForm f
start_is_step (Const b) w = tt
start_is_step (Letter p) w = tt
start_is_step (Unary Not a) w = start_is_step a w.1
start_is_step (Unary Next a) w = absurd w.0
start_is_step (Unary op a) w = absurd w.0
start_is_step (Binary op a b) w = (w.0, start_is_step a w.1, start_is_step b w.2)

module _ (t : Trace) where
  pub start_is_one : (i : ℕ) (u : Names) (f : Formula) → IsPropositional f → Holds t f i ↔ Two (state_at t i) u f
  start_is_one i u (Const b) w = same
  start_is_one i u (Letter p) w = same
  start_is_one i u (Unary Not a) w = not_same (start_is_one i u a w.1)
  start_is_one i u (Unary Next a) w = absurd w.0
  start_is_one i u (Unary op a) w = absurd w.0
  start_is_one i u (Binary And a b) w = and_same (start_is_one i u a w.1) (start_is_one i u b w.2)
  start_is_one i u (Binary Or a b) w = or_same (start_is_one i u a w.1) (start_is_one i u b w.2)
  start_is_one i u (Binary Implies a b) w = implies_same (start_is_one i u a w.1) (start_is_one i u b w.2)
  start_is_one i u (Binary Iff a b) w = iff_same (start_is_one i u a w.1) (start_is_one i u b w.2)
  start_is_one i u (Binary op a b) w = absurd w.0

  module _ (infinite : IsOfKind t Kinds.Infinite) where
    pub step_is_two : (i : ℕ) (f : Formula) → IsStepForm f → Holds t f i ↔ Two (state_at t i) (state_at t (suc i)) f
    step_is_two i (Const b) w = same
    step_is_two i (Letter p) w = same
    step_is_two i (Unary Not a) w = not_same (step_is_two i a w)
    step_is_two i (Unary Next a) w =
        let r = start_is_one (suc i) (state_at t (suc i)) a w in
        let e = next_is (IsPosition t) (Holds t a) i in
        (λ h. r.0 (e.0 h).1, λ h. e.1 (is_position t (suc i) infinite, r.1 h))
    step_is_two i (Unary op a) w = absurd w
    step_is_two i (Binary And a b) w = and_same (step_is_two i a w.1) (step_is_two i b w.2)
    step_is_two i (Binary Or a b) w = or_same (step_is_two i a w.1) (step_is_two i b w.2)
    step_is_two i (Binary Implies a b) w = implies_same (step_is_two i a w.1) (step_is_two i b w.2)
    step_is_two i (Binary Iff a b) w = iff_same (step_is_two i a w.1) (step_is_two i b w.2)
    step_is_two i (Binary op a b) w = absurd w.0

-- what is said of two states depends on the sets alone
pub two_same : (s s' u u' : Names) (f : Formula) → AreSameSet s s' → AreSameSet u u' → Two s u f ↔ Two s' u' f
two_same s s' u u' (Const b) h k = same
two_same s s' u u' (Letter p) h k = h (name_of p)
two_same s s' u u' (Unary Not a) h k = not_same (two_same s s' u u' a h k)
two_same s s' u u' (Unary Next a) h k = two_same u u' u u' a k k
two_same s s' u u' (Unary op a) h k = same
two_same s s' u u' (Binary And a b) h k = and_same (two_same s s' u u' a h k) (two_same s s' u u' b h k)
two_same s s' u u' (Binary Or a b) h k = or_same (two_same s s' u u' a h k) (two_same s s' u u' b h k)
two_same s s' u u' (Binary Implies a b) h k = implies_same (two_same s s' u u' a h k) (two_same s s' u u' b h k)
two_same s s' u u' (Binary Iff a b) h k = iff_same (two_same s s' u u' a h k) (two_same s s' u u' b h k)
two_same s s' u u' (Binary op a b) h k = same
