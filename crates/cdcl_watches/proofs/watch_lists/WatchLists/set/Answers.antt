use Rattle.cdcl_watches.proofs.PoolCalls.{set_call}
use Rattle.cdcl_watches.proofs.watch_lists.WatchLists.set.Goals as goal

pub returns : goal.returns
returns c =
    rw (← c.self.view_is) (set_call c.self.inside.pool.items c.self.inside.spans.items c.self.inside.spare c.self.invariant c.args.list
    (rw (← c.self.view_is) at c.requires.list) c.index.result.now c.index.ensures
    c.args.place c.args.watcher (rw (← c.self.view_is) at c.requires.place))
