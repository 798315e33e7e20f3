use Rattle.cdcl_watches.proofs.PoolBlocks.{given_blocks}
use Rattle.cdcl_watches.proofs.pool.leave.Goals as goal

pub returns-in-Ok : goal.returns-in-Ok
returns-in-Ok c size spans are free =
    given_blocks c.args.spare.now c.give.new.self c.args.span.class c.args.span.from c.give.ensures.others c.in-Ok.ensures.ok size spans are free
