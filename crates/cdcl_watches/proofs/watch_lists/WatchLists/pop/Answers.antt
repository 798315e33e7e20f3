use Rattle.cdcl_watches.proofs.PoolCalls.{pop_pool, pop_call}
use Rattle.cdcl_watches.proofs.watch_lists.WatchLists.pop.Goals as goal

pub invariant_of-self : goal.invariant_of-self
invariant_of-self c =
    pop_pool c.self.inside.pool.items c.self.inside.spans.items c.self.inside.spare c.self.invariant c.args.list (rw (← c.self.view_is) at c.requires.list)
    c.index_mut.result.now c.index_mut.ensures.value

pub returns : goal.returns
returns c =
    rw (← c.self.view_is) (pop_call c.self.inside.pool.items c.self.inside.spans.items c.self.inside.spare c.self.invariant c.args.list
    (rw (← c.self.view_is) at c.requires.list) c.index_mut.result.now c.index_mut.ensures.value)
