-- What is made of a start, a step and a goal: one table with the system formula and the whole formula, or the first refusal.
use Rattle.std.specs.Prelude.{◌≡◌, ℕ, ◌<◌, ◌≤◌, Result, Ok, Err, Option, Some, None, ⊤}
use Rattle.ltl_syntax.specs.Formula.{Formula}
use Rattle.ltl_syntax.specs.Size.{formula_size}
use Rattle.ltl_word.specs.Propositional.{IsPropositional}
use Rattle.system_check.specs.declared.joining.Joined.{Joined}
use Rattle.system_check.specs.declared.joining.JoinRefused.{JoinRefused}
use Rattle.system_check.specs.declared.joining.JoinRefused.TheVariants as refused
use Rattle.system_check.specs.TwoStates.{IsStepForm}
use Rattle.system_check.specs.Formulas.{HasFormulas}
use Rattle.system_check.specs.System.{IsSystem, whole_of}

-- the size of the whole formula
abbrev pub whole_size : Formula → Formula → Formula → ℕ
whole_size start step goal = formula_size (whole_of start step goal)

-- the parts have the forms of a system, and the table has the system formula and the whole formula under these nodes
pub record IsJoined (start step goal : Formula) (joined : Joined) : Type 0 where
  pub forms : IsSystem start step
  pub formulas : HasFormulas start step goal joined.table joined.system joined.whole

-- the parts are joined, or the whole formula is too large, or else the start or else the step misses its form
abbrev pub IsJoining : Formula → Formula → Formula → Result Joined JoinRefused → Type 0
IsJoining start step goal (Ok j) = (whole_size start step goal ≤ 16384) × IsJoined start step goal j
IsJoining start step goal (Err (refused.Nodes size)) = (size ≡ whole_size start step goal) × (16384 < size)
IsJoining start step goal (Err refused.Start) = (whole_size start step goal ≤ 16384) × (¬ IsPropositional start)
IsJoining start step goal (Err refused.Step) = (whole_size start step goal ≤ 16384) × IsPropositional start × (¬ IsStepForm step)
IsJoining start step goal (Err refused.NoMemory) = ⊤

-- the refusal, if it is one
abbrev pub refusal_of : Result Joined JoinRefused → Option JoinRefused
refusal_of (Ok j) = None
refusal_of (Err e) = Some e

-- memory sufficed
abbrev pub HasMemory : Result Joined JoinRefused → Type 0
HasMemory (Ok j) = ⊤
HasMemory (Err (refused.Nodes size)) = ⊤
HasMemory (Err refused.Start) = ⊤
HasMemory (Err refused.Step) = ⊤
HasMemory (Err refused.NoMemory) = ⊥
