use Rattle.std.proofs.Common.{arith}
use Rattle.cdcl_watches.proofs.PoolCalls.{close_pool, close_call}
use Rattle.cdcl_watches.proofs.watch_lists.WatchLists.close.Goals as goal

pub invariant_of-self : goal.invariant_of-self
invariant_of-self c =
    close_pool c.self.inside.pool.items c.self.inside.spans.items c.self.inside.spare c.self.invariant c.args.list (rw (← c.self.view_is) at c.requires.list)
    c.index-span.result.now c.index-span.ensures
    c.copy_within.new.self.items c.args.kept c.args.next c.requires.order (rw (← c.self.view_is) at c.requires.within)
    (omega (arith, c.copy_within.ensures.len))

pub returns : goal.returns
returns c =
    let copied = c.copy_within.ensures.by_index in
    rw (← c.self.view_is) (close_call c.self.inside.pool.items c.self.inside.spans.items c.self.inside.spare c.self.invariant c.args.list
    (rw (← c.self.view_is) at c.requires.list) c.index-span.result.now c.index-span.ensures
    c.copy_within.new.self.items c.args.kept c.args.next c.requires.order (rw (← c.self.view_is) at c.requires.within) (omega (
      arith,
      c.copy_within.ensures.len,
    )) copied.0 copied.1 copied.2)
