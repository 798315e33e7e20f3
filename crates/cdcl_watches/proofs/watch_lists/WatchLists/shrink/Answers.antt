use Rattle.std.proofs.Common.{◌-◌, sym, subst, arith}
use Rattle.cdcl_watches.specs.Pool.{IsPool}
use Rattle.cdcl_watches.proofs.PoolCalls.{shrunk_pool}
use Rattle.cdcl_watches.proofs.watch_lists.WatchLists.shrink.Goals as goal

pub invariant_of-self : goal.invariant_of-self
invariant_of-self c =
    subst (λ ss. IsPool c.self.inside.pool.items ss c.self.inside.spare) (sym c.truncate.ensures.items)
    (shrunk_pool c.self.inside.pool.items c.self.inside.spans.items c.self.inside.spare c.self.invariant (c.len-count.result - 1) (omega (
      arith,
      c.len-count.ensures,
    )))
