-- The traces of the system formula are the paths.
use Rattle.std.proofs.Common.{ℕ, ◌↔◌, arith}
use Rattle.ltl_syntax.specs.declared.node.Kind.TheVariants as Kinds
use Rattle.ltl_syntax.specs.Formula.{Formula, Unary}
use Rattle.ltl_syntax.specs.declared.node.UnaryOp.TheVariants.{Always}
use Rattle.ltl_word.specs.declared.trace.Trace.{Trace}
use Rattle.ltl_word.specs.Trace.{IsTrace, IsOfKind, state_at}
use Rattle.ltl_word.specs.Holds.{Holds, Satisfies}
use Rattle.system_check.specs.System.{IsSystem, IsPath, system_of, whole_of}
use Rattle.system_check.proofs.Two.{is_position, start_is_one, step_is_two}

module _ (t : Trace) (good : IsTrace t) (infinite : IsOfKind t Kinds.Infinite) where
  -- a formula holds always on an infinite trace where it holds at each number
  always_each : (f : Formula) → Holds t (Unary Always f) 0 → (i : ℕ) → Holds t f i
  always_each f h i = h i (omega arith, is_position t i infinite)

  each_always : (f : Formula) → ((i : ℕ) → Holds t f i) → Holds t (Unary Always f) 0
  each_always f h = λ j w. h j

  module _ (start step : Formula) (is : IsSystem start step) where
    pub system_paths : Satisfies t (system_of start step) ↔ IsPath start step t
    system_paths = (
      λ h. record {
        trace = good;
        infinite = infinite;
        first = (start_is_one t 0 (state_at t 0) start is.start_form).0 h.0;
        each = λ i. (step_is_two t infinite i step is.step_form).0 (always_each step h.1 i);
      },
      λ p. ((start_is_one t 0 (state_at t 0) start is.start_form).1 p.first, each_always step (λ i. (step_is_two t infinite i step is.step_form).1 (p.each i))),
    )

    pub whole_paths : (goal : Formula) → Satisfies t (whole_of start step goal) ↔ (IsPath start step t × (¬ Satisfies t goal))
    whole_paths goal = (λ h. (system_paths.0 h.0, h.1), λ p. (system_paths.1 p.0, p.1))
