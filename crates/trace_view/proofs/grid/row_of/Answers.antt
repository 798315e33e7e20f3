use Rattle.std.proofs.Common.{◌∙◌, ◌++◌, List, ap, subst}
use Rattle.ltl_word.specs.Trace.{Names}
use Rattle.trace_view.specs.Grid.{AreCells}
use Rattle.trace_view.proofs.Cells.{row_of_parts, row_of_states, named}
use Rattle.trace_view.proofs.grid.row_of.Goals.{in-Infinite+in_ok-cells-in-Infinite+in_ok-again-in-Infinite+in_ok-extend_from_slice-in-Infinite}
use Rattle.trace_view.proofs.grid.row_of.Goals.{in-Finite+in_ok-cells-in-Finite}
use Rattle.trace_view.proofs.grid.row_of.Goals as goal

pub returns : goal.returns
returns c = elim c.match-trace.branch [
  | in-Infinite+in_ok-cells-in-Infinite+in_ok-again-in-Infinite+in_ok-extend_from_slice-in-Infinite w ↦
      named c.args.trace.now _ c.args.name.now c.in_ok-new.field-0 c.match-trace.cells.items c.in_ok-new.ensures w.in-Infinite.is
      (row_of_parts _ _ c.args.name.now w.in_ok-cells-in-Infinite.cells.items w.in_ok-again-in-Infinite.again.items c.match-trace.cells.items
      (subst (λ (s : List Names). AreCells s c.args.name.now w.in_ok-cells-in-Infinite.cells.items) w.as_slice.ensures w.in_ok-cells-in-Infinite.ensures)
      (subst (λ (s : List Names). AreCells s c.args.name.now w.in_ok-again-in-Infinite.again.items)
      w.as_slice-in-Infinite.ensures w.in_ok-again-in-Infinite.ensures)
      (ap (λ v. v.items) w.cells-is
      ∙ w.in_ok-extend_from_slice-in-Infinite.ensures.items ∙ ap (λ xs. w.in_ok-cells-in-Infinite.cells.items ++ xs) w.deref.ensures.value))
  | in-Finite+in_ok-cells-in-Finite w ↦
      named c.args.trace.now _ c.args.name.now c.in_ok-new.field-0 c.match-trace.cells.items c.in_ok-new.ensures w.in-Finite.is
      (row_of_states _ c.args.name.now w.in_ok-cells-in-Finite.cells.items c.match-trace.cells.items
      (subst (λ (s : List Names). AreCells s c.args.name.now w.in_ok-cells-in-Finite.cells.items) w.as_slice-in-Finite.ensures w.in_ok-cells-in-Finite.ensures)
      (ap (λ v. v.items) w.cells-is))
]
