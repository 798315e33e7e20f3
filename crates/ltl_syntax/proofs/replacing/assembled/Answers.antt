use Rattle.std.proofs.Common.{◌<◌, arith, length, refl}
use Rattle.std.proofs.lemmas.Option.{slice_get_read}
use Rattle.ltl_syntax.proofs.Cutting.{node_follows}
use Rattle.ltl_syntax.proofs.replacing.assembled.Goals as goal

pub add-requires-clause-follow : goal.add-requires-clause-follow
add-requires-clause-follow c =
    let low : c.nodes.index < length c.args.nodes.now.items = omega arith in
    (node_follows c.args.table.now c.nodes.copy c.args.nodes.now.items c.nodes.index c.index.result.now c.invariant.ensures c.requires c.nodes.invariant.names
    c.nodes.invariant.nodes
    (slice_get_read _ _ _ _ refl low c.index.ensures)).0

pub add-requires-clause-room : goal.add-requires-clause-room
add-requires-clause-room c =
    let low : c.nodes.index < length c.args.nodes.now.items = omega arith in
    (node_follows c.args.table.now c.nodes.copy c.args.nodes.now.items c.nodes.index c.index.result.now c.invariant.ensures c.requires c.nodes.invariant.names
    c.nodes.invariant.nodes
    (slice_get_read _ _ _ _ refl low c.index.ensures)).1
