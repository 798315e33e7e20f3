use Rattle.std.proofs.Common.{[], ◌∷◌, ◌++◌, set, get_or, ap, ap₂, ◌∙◌, arith}
use Rattle.cdcl_watches.specs.Pool.{contents}
use Rattle.cdcl_watches.proofs.PoolCalls.{known_list, room_at, put_pool, put_call}
use Rattle.cdcl_watches.proofs.watch_lists.WatchLists.push.Goals as goal

pub returns-then-span-room : goal.returns-then-span-room
returns-then-span-room c =
    let pool = c.self.inside.pool.items in
    let spans = c.self.inside.spans.items in
    let known = known_list pool spans c.args.list (rw (← c.self.view_is) at c.requires) in
    let room = room_at spans c.args.list c.index-span.result.now known c.index-span.ensures (omega (arith, c.if-span-room.true, c.room.ensures)) in
    rw (← c.self.view_is)
    (ap₂ contents c.put.ensures.pool c.put.ensures.spans ∙ put_call pool spans c.self.inside.spare c.self.invariant c.args.list known room c.args.watcher)

pub invariant_of-self : goal.invariant_of-self
invariant_of-self c =
    let pool = c.self.inside.pool.items in
    let spans = c.self.inside.spans.items in
    let known = known_list pool spans c.args.list (rw (← c.self.view_is) at c.requires) in
    let room = room_at spans c.args.list c.index-span.result.now known c.index-span.ensures (omega (arith, c.if-span-room.true, c.room.ensures)) in
    rw (c.put.ensures.pool, c.put.ensures.spans)
    (put_pool pool spans c.self.inside.spare c.self.invariant c.args.list known room c.args.watcher)

pub invariant_of-self-2 : goal.invariant_of-self-2
invariant_of-self-2 c =
    let known = known_list c.self.inside.pool.items c.self.inside.spans.items c.args.list (rw (← c.self.view_is) at c.requires) in
    rw (c.put-2.ensures.pool, c.put-2.ensures.spans)
    (put_pool c.widen.new.pool.items c.widen.new.spans.items c.widen.new.spare c.in_ok-widen.ensures.pool c.args.list
    (omega (arith, known, c.in_ok-widen.ensures.lists)) c.in_ok-widen.ensures.room c.args.watcher)

pub returns : goal.returns
returns c =
    let known = known_list c.self.inside.pool.items c.self.inside.spans.items c.args.list (rw (← c.self.view_is) at c.requires) in
    rw (← c.self.view_is) (ap₂ contents c.put-2.ensures.pool c.put-2.ensures.spans
    ∙ put_call c.widen.new.pool.items c.widen.new.spans.items c.widen.new.spare c.in_ok-widen.ensures.pool c.args.list
    (omega (arith, known, c.in_ok-widen.ensures.lists)) c.in_ok-widen.ensures.room c.args.watcher
    ∙ ap (λ ls. set ls c.args.list (get_or ls c.args.list [] ++ c.args.watcher ∷ [])) c.in_ok-widen.ensures.same)
