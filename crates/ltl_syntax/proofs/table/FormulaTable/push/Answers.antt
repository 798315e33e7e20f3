use Rattle.std.proofs.Common.{◌≡◌, ◌+◌, ◌≤◌, length, arith, ◌∙◌, ap}
use Rattle.ltl_syntax.specs.contracts.table.FormulaTable.{the_view}
use Rattle.ltl_syntax.specs.Table.{MayFollow}
use Rattle.ltl_syntax.specs.Size.{sizes, node_size}
use Rattle.ltl_syntax.proofs.Sizes.{sizes-push}
use Rattle.ltl_syntax.proofs.Tables.{is_table-push}
use Rattle.ltl_syntax.proofs.Roots.{root_pushed, pushes, flags_pushed}
use Rattle.ltl_syntax.proofs.table.FormulaTable.push.Goals as goal

pub invariant_of-self-in-Ok : goal.invariant_of-self-in-Ok
invariant_of-self-in-Ok c =
    let may : MayFollow (the_view c.self.inside) c.args.node = rw c.self.view_is c.requires in
    let room : sizes c.self.inside.nodes.items + node_size c.args.node ≤ 16384 = omega arith in
    rw c.in-Ok.ensures.items (
      is_table-push (the_view c.self.inside) c.args.node c.self.invariant.0 may room,
      flags_pushed (the_view c.self.inside)
          c.args.node c.self.inside.root_flags.items c.clear_children.new.flags.items c.self.invariant.0 may c.self.invariant.1
          (c.clear_children.ensures.count ∙ ap length c.in_ok-push.ensures.items)
          (rw c.in_ok-push.ensures.items at c.clear_children.ensures.each),
      omega (arith, sizes-push c.self.inside.nodes.items c.args.node),
    )

pub returns-in-Ok-clause-ok : goal.returns-in-Ok-clause-ok
returns-in-Ok-clause-ok c =
    let may : MayFollow (the_view c.self.inside) c.args.node = rw c.self.view_is c.requires in
    rw (← c.self.view_is, c.in-Ok.ensures.items) (pushes (the_view c.self.inside) c.args.node c.self.invariant.0 may)

pub returns-in-Ok-clause-root : goal.returns-in-Ok-clause-root
returns-in-Ok-clause-root c =
    let may : MayFollow (the_view c.self.inside) c.args.node = rw c.self.view_is c.requires in
    let number : c.len-number.result ≡ length c.self.inside.nodes.items = omega arith in
    rw (c.in-Ok.ensures.items, number) (root_pushed (the_view c.self.inside) c.args.node c.self.invariant.0 may)
