use Rattle.std.proofs.Common.{ℕ, List, ◌++◌}
use Rattle.ltl_syntax.specs.Formula.{Formula}
use Rattle.ltl_syntax.specs.Table.{Table, tree_at}
use Rattle.ltl_syntax.specs.Under.{IsUnder}
use Rattle.depast.specs.Lifting.{counted}
use Rattle.depast.specs.Sources.{AreSources, behind}
use Rattle.depast.proofs.sources.put_behind.Given as goal

abbrev pub invariant-loop-step : goal.invariant-loop-step
invariant-loop-step l =
    (t : Table) (root : ℕ) (gs : List Formula) → IsUnder t root l.operand → AreSources t root l.fn.sources.items gs
    → AreSources t root l.sources.items (gs ++ counted (λ m. behind l.beyond m (tree_at t l.operand)) l.step)
