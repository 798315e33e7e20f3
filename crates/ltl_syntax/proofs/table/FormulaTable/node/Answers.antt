use Rattle.std.proofs.Common.{arith, refl, length, ◌<◌, ap}
use Rattle.std.proofs.lemmas.Option.{slice_get_read}
use Rattle.ltl_syntax.specs.Table.{Table}
use Rattle.ltl_syntax.proofs.Sizes.{order_at}
use Rattle.ltl_syntax.proofs.Trees.{node_tree, node_fine}
use Rattle.ltl_syntax.proofs.table.FormulaTable.node.Goals as goal

pub returns-clause-tree : goal.returns-clause-tree
returns-clause-tree c =
    let fits : c.args.number < length c.self.inside.nodes.items = omega (arith, ap (λ (t : Table). length t.nodes) c.self.view_is) in
    rw (← c.self.view_is) (node_tree _ c.self.invariant.0 c.args.number c.index.result.now (slice_get_read _ _ _ _ refl fits c.index.ensures))

pub returns-clause-below : goal.returns-clause-below
returns-clause-below c =
    let fits : c.args.number < length c.self.inside.nodes.items = omega (arith, ap (λ (t : Table). length t.nodes) c.self.view_is) in
    rw (← c.self.view_is) (node_fine _ c.self.invariant.0 c.args.number c.index.result.now (slice_get_read _ _ _ _ refl fits c.index.ensures))

pub returns-clause-ordered : goal.returns-clause-ordered
returns-clause-ordered c =
    let fits : c.args.number < length c.self.inside.nodes.items = omega (arith, ap (λ (t : Table). length t.nodes) c.self.view_is) in
    order_at _ c.self.invariant.0.ordered c.args.number c.index.result.now (slice_get_read _ _ _ _ refl fits c.index.ensures)
