use Rattle.std.proofs.Common.{replicate, ap, ◌∙◌, arith}
use Rattle.cdcl_watches.specs.Pool.{nowhere, contents}
use Rattle.cdcl_watches.proofs.Emptied.{emptied_call, emptied_pool}
use Rattle.cdcl_watches.proofs.watch_lists.WatchLists.emptied.Goals as goal

pub invariant_of-result : goal.invariant_of-result
invariant_of-result c =
    let is = c.in_ok-spans.ensures.items_if_clones_equal (λ y h. h) in
    rw (is, c.in_ok-pool.ensures.items, c.new.ensures) (emptied_pool c.len.result (omega (arith, c.self.invariant.few_lists)))

pub returns : goal.returns
returns c =
    let is = c.in_ok-spans.ensures.items_if_clones_equal (λ y h. h) in
    rw (← c.self.view_is) (ap (contents c.in_ok-pool.pool.items) (is ∙ ap (λ n. replicate n nowhere) (omega arith))
    ∙ emptied_call c.self.inside.pool.items c.in_ok-pool.pool.items c.self.inside.spans.items)
