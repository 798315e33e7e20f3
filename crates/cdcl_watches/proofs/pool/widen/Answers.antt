use Rattle.std.proofs.Common.{arith}
use Rattle.cdcl_watches.proofs.PoolContents.{contents_longer}
use Rattle.cdcl_watches.proofs.PoolCalls.{moved_inside, moved_room, moved_call, moved_pool}
use Rattle.cdcl_watches.proofs.pool.widen.Goals as goal

pub returns-in_err-from-clause-same : goal.returns-in_err-from-clause-same
returns-in_err-from-clause-same c = contents_longer c.args.pool.now.items c.free_block.new.pool.items c.args.spans.now.items c.args.spare.now
    c.requires.pool.blocks c.in_err-from.ensures.long c.in_err-from.ensures.same

pub copy_within-requires-clause-dest_in_bounds : goal.copy_within-requires-clause-dest_in_bounds
copy_within-requires-clause-dest_in_bounds c =
    let inside = moved_inside c.args.pool.now.items c.free_block.new.pool.items c.args.spans.now.items c.args.spare.now c.free_block.new.spare c.requires.pool
    c.args.list c.requires.list c.index-span.result.now c.index-span.ensures c.in_ok-from.from
    (c.in_ok-from.ensures.blocks c.args.spans.now.items c.requires.pool.blocks) (c.in_ok-from.ensures.free c.args.spans.now.items c.requires.pool.blocks) in
    omega (arith, inside)

pub returns-clause-pool : goal.returns-clause-pool
returns-clause-pool c =
    moved_pool c.args.pool.now.items c.free_block.new.pool.items c.args.spans.now.items c.args.spare.now c.free_block.new.spare c.requires.pool c.args.list
    c.requires.list c.index-span.result.now c.index-span.ensures c.in_ok-from.from
    (c.in_ok-from.ensures.blocks c.args.spans.now.items c.requires.pool.blocks) (c.in_ok-from.ensures.free c.args.spans.now.items c.requires.pool.blocks)
    c.in_ok-from.ensures.long c.in_ok-from.ensures.same c.copy_within.new.self.items (omega (arith, c.copy_within.ensures.len))
    c.in_ok-from.ensures.few c.if-class-ge-CLASSES.false c.leave.new.spare c.leave.ensures

pub returns-clause-same : goal.returns-clause-same
returns-clause-same c =
    let copied = c.copy_within.ensures.by_index in
    moved_call c.args.pool.now.items c.free_block.new.pool.items c.args.spans.now.items c.args.spare.now c.free_block.new.spare c.requires.pool c.args.list
    c.requires.list c.index-span.result.now c.index-span.ensures c.in_ok-from.from
    (c.in_ok-from.ensures.blocks c.args.spans.now.items c.requires.pool.blocks) (c.in_ok-from.ensures.free c.args.spans.now.items c.requires.pool.blocks)
    c.in_ok-from.ensures.long c.in_ok-from.ensures.same c.copy_within.new.self.items (omega (arith, c.copy_within.ensures.len)) copied.0 copied.1 copied.2

pub returns-clause-room : goal.returns-clause-room
returns-clause-room c =
    moved_room c.args.pool.now.items c.free_block.new.pool.items c.args.spans.now.items c.args.spare.now c.free_block.new.spare c.requires.pool c.args.list
    c.requires.list c.index-span.result.now c.index-span.ensures c.in_ok-from.from
    (c.in_ok-from.ensures.blocks c.args.spans.now.items c.requires.pool.blocks) (c.in_ok-from.ensures.free c.args.spans.now.items c.requires.pool.blocks)
