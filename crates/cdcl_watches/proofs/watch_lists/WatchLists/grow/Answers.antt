use Rattle.std.proofs.Common.{sym, subst, arith}
use Rattle.cdcl_watches.specs.Pool.{IsPool}
use Rattle.cdcl_watches.proofs.PoolCalls.{grown_pool}
use Rattle.cdcl_watches.proofs.watch_lists.WatchLists.grow.Goals as goal

pub invariant_of-self : goal.invariant_of-self
invariant_of-self c =
    subst (λ ss. IsPool c.self.inside.pool.items ss c.self.inside.spare) (sym c.in-Ok.ensures.items)
    (grown_pool c.self.inside.pool.items c.self.inside.spans.items c.self.inside.spare c.self.invariant
    (omega (arith, c.len.ensures, c.if-len-ge-MAX_LISTS.false)))
