use Rattle.std.proofs.Common.{sym, subst}
use Rattle.std.proofs.lemmas.Option.{slice_get_read}
use Rattle.ltl_syntax.specs.Table.{tree_at}
use Rattle.system_check.specs.TwoStates.{HasForms}
use Rattle.system_check.proofs.forms.node_forms.Goals as goal

pub returns-in-Binary : goal.returns-in-Binary
returns-in-Binary c =
    subst (λ f. HasForms f c.binary_forms.result) (sym c.in-Binary.ensures.tree)
    (c.binary_forms.ensures (tree_at c.args.table.now c.in-Binary.a) (tree_at c.args.table.now c.in-Binary.b)
    (c.requires.each c.in-Binary.a c.index-in-Binary.result.now (slice_get_read c.args.forms.now.items c.args.number c.in-Binary.a c.index-in-Binary.result.now
    (sym c.requires.count) c.in-Binary.ensures.below.0 c.index-in-Binary.ensures))
    (c.requires.each c.in-Binary.b c.index-in-Binary-2.result.now (slice_get_read c.args.forms.now.items c.args.number c.in-Binary.b
    c.index-in-Binary-2.result.now (sym c.requires.count) c.in-Binary.ensures.below.1 c.index-in-Binary-2.ensures)))
