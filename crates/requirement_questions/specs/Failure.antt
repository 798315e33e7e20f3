-- Where a formula fails first.
use Rattle.std.specs.Prelude.{◌≡◌, ℕ, ◌<◌, ◌≤◌, true, false, Bool, List, length, Option, Some, None}
use Rattle.ltl_syntax.specs.declared.node.UnaryOp.TheVariants.{Always}
use Rattle.ltl_syntax.specs.Formula.{Formula, Unary}
use Rattle.ltl_word.specs.declared.trace.Trace.{Trace}
use Rattle.ltl_word.specs.Trace.{IsPosition}
use Rattle.ltl_word.specs.Holds.{Holds, Satisfies}
use Rattle.lasso_eval.specs.Rows.{cell}

-- `G f` fails first where `f` does, and each other formula at position 0
abbrev pub FailsFirst : Trace → Formula → ℕ → Type 0
FailsFirst t (Unary Always a) j = IsPosition t j × (¬ Holds t a j) × ((i : ℕ) → i < j → Holds t a i)
FailsFirst t f j = (j ≡ 0) × ¬ Satisfies t f

-- the trace satisfies the formula, or this is where it fails first
abbrev pub IsFirstFailure : Trace → Formula → Option ℕ → Type 0
IsFirstFailure t f None = Satisfies t f
IsFirstFailure t f (Some j) = FailsFirst t f j

-- the cells before it are true, and it is false where the row has it
pub record IsFirstFalse (row : List Bool) (j : ℕ) : Type 0 where
  pub within : j ≤ length row
  pub before : (i : ℕ) → i < j → cell row i ≡ true
  pub at : j < length row → cell row j ≡ false
