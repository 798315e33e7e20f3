-- What the evaluation knows of its table before it is filled.
use Rattle.std.specs.Prelude.{◌≡◌, ℕ, ◌*◌, ◌<◌, ◌≤◌, List, length, slice_index_or}
use Rattle.ltl_syntax.specs.Table.{Table, tree_at}
use Rattle.ltl_word.specs.declared.trace.Trace.{Trace}
use Rattle.ltl_word.specs.Trace.{IsTrace}
use Rattle.ltl_word.specs.Depth.{past_depth}
use Rattle.lasso_eval.specs.declared.extent.Extent.{Extent}
use Rattle.lasso_eval.specs.Cells.{columns, loop_start, max_cells}

-- the extent is that of this trace, for its past depth
pub record IsExtent (t : Trace) (extent : Extent) : Type 0 where
  pub trace : IsTrace t
  pub columns_are : extent.columns ≡ columns t extent.depth
  pub few : extent.columns ≤ max_cells
  pub loop_starts : extent.loop_start ≡ loop_start t extent.depth

-- the past depths of the first nodes, none greater than 255 times the number of the node
pub record AreDepths (table : Table) (depths : List ℕ) : Type 0 where
  pub right : (i : ℕ) → i < length depths → slice_index_or depths i 0 ≡ past_depth (tree_at table i)
  pub small : (i : ℕ) → i < length depths → slice_index_or depths i 0 ≤ 255 * i
