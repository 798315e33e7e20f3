use Rattle.std.proofs.Common.{◌≡◌, ◌+◌, List, length, sym, subst, arith}
use Rattle.std.proofs.lemmas.Result.{IfOk-weaker}
use Rattle.cdcl_watches.specs.declared.span.Span.{Span}
use Rattle.cdcl_watches.specs.Pool.{room_of, IsFree, AreBlocks}
use Rattle.cdcl_watches.proofs.PoolBlocks.{longer, longer_free, taken_blocks, taken_free}
use Rattle.cdcl_watches.proofs.pool.free_block.Goals as goal

pub returns-in-Some-clause-blocks : goal.returns-in-Some-clause-blocks
returns-in-Some-clause-blocks c spans are =
    taken_blocks c.args.spare.now c.take.new.self c.args.class c.take.ensures.others c.take.ensures.row (length c.args.pool.now.items) spans are

pub returns-in-Some-clause-free : goal.returns-in-Some-clause-free
returns-in-Some-clause-free c spans are =
    taken_free c.args.spare.now c.take.new.self c.args.class c.take.ensures.others c.take.ensures.row (length c.args.pool.now.items)
    spans are c.in-Some.from c.in-Some.ensures.some c.in-Some.ensures.from

pub returns-in-None-clause-blocks : goal.returns-in-None-clause-blocks
returns-in-None-clause-blocks c spans are =
    longer (length c.args.pool.now.items) (length c.lengthen.new.pool.items) spans c.take.new.self c.lengthen.ensures.up
    (taken_blocks c.args.spare.now c.take.new.self c.args.class c.take.ensures.others c.take.ensures.row (length c.args.pool.now.items) spans are)

pub returns-in-None-clause-free : goal.returns-in-None-clause-free
returns-in-None-clause-free c =
    let more = length c.lengthen.new.pool.items in
    let room = room_of c.args.class in
    IfOk-weaker c.lengthen.result (λ from. (from ≡ length c.args.pool.now.items) × (more ≡ from + room))
    (λ from. (spans : List Span) → AreBlocks (length c.args.pool.now.items) spans c.args.spare.now → IsFree more spans c.take.new.self from room)
    (λ from is spans are.
    subst (λ n. IsFree more spans c.take.new.self n room) (sym is.0)
    (longer_free (length c.args.pool.now.items) more room spans c.take.new.self (omega (arith, is.0, is.1))
    (taken_blocks c.args.spare.now c.take.new.self c.args.class c.take.ensures.others c.take.ensures.row (length c.args.pool.now.items) spans are)))
    c.lengthen.ensures.from
