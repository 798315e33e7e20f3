-- The copied parts of a system and a goal in one table, and the operators on top of them.
use Rattle.std.specs.Prelude.{◌≡◌, ◌≢◌, ℕ, ◌<◌, length}
use Rattle.ltl_syntax.specs.Formula.{Formula}
use Rattle.ltl_syntax.specs.Table.{Table, tree_at, IsRoot}
use Rattle.formula_copy.specs.declared.parts.TablePart.{TablePart}
use Rattle.system_check.specs.declared.joining.Copies.{Copies}
use Rattle.system_check.specs.System.{system_of, whole_of}
use Rattle.formula_copy.specs.Part.{IsPart}

-- the part is that of its own table and root
abbrev pub IsPartOf : TablePart → Type 0
IsPartOf part = IsPart part.table.now part.root part

-- the copies are three roots of the table
pub record AreCopies (t : Table) (copies : Copies) : Type 0 where
  pub start : IsRoot t copies.start
  pub step : IsRoot t copies.step
  pub goal : IsRoot t copies.goal
  pub start_step : copies.start ≢ copies.step
  pub start_goal : copies.start ≢ copies.goal
  pub step_goal : copies.step ≢ copies.goal

-- the table has the system formula and the whole formula under these nodes
pub record HasFormulas (start step goal : Formula) (t : Table) (system whole : ℕ) : Type 0 where
  pub system_there : system < length t.nodes
  pub whole_there : whole < length t.nodes
  pub system_is : tree_at t system ≡ system_of start step
  pub whole_is : tree_at t whole ≡ whole_of start step goal
