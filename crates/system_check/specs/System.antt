-- A system: what holds of its first state and of each two states in a row. Its paths, and its formulas.
use Rattle.std.specs.Prelude.{ℕ, suc}
use Rattle.ltl_syntax.specs.declared.node.Kind.TheVariants as Kinds
use Rattle.ltl_syntax.specs.Formula.{Formula, Unary, Binary}
use Rattle.ltl_syntax.specs.declared.node.UnaryOp.TheVariants.{Always, Not}
use Rattle.ltl_syntax.specs.declared.node.BinaryOp.TheVariants.{And}
use Rattle.ltl_word.specs.declared.trace.Trace.{Trace}
use Rattle.ltl_word.specs.Trace.{IsTrace, IsOfKind, state_at}
use Rattle.ltl_word.specs.Propositional.{IsPropositional}
use Rattle.system_check.specs.TwoStates.{IsStepForm, Two}

-- the start has no temporal operator, and the step has its form
pub record IsSystem (start step : Formula) : Type 0 where
  pub start_form : IsPropositional start
  pub step_form : IsStepForm step

-- an infinite trace that begins as the start says, and goes on as the step says from each state to the next
pub record IsPath (start step : Formula) (t : Trace) : Type 0 where
  pub trace : IsTrace t
  pub infinite : IsOfKind t Kinds.Infinite
  pub first : Two (state_at t 0) (state_at t 0) start
  pub each : (i : ℕ) → Two (state_at t i) (state_at t (suc i)) step

-- start & G step
abbrev pub system_of : Formula → Formula → Formula
system_of start step = Binary And start (Unary Always step)

-- (start & G step) & !goal
abbrev pub whole_of : Formula → Formula → Formula → Formula
whole_of start step goal = Binary And (system_of start step) (Unary Not goal)
