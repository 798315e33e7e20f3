use Rattle.std.proofs.Common.{◌≡◌, [], ◌∷◌, ◌++◌, set, length, get_or, ap, ◌∙◌, arith}
use Rattle.cdcl_watches.specs.Watching.{code}
use Rattle.cdcl_watches.specs.Watchers.{numbers, closed, walk_in}
use Rattle.cdcl_watches.proofs.Kept.{blocking_from}
use Rattle.cdcl_watches.proofs.Walks.{left, next_standing, next_long, left_walked, left_lists}
use Rattle.cdcl_watches.proofs.walk.rewatch.Goals as goal
use Rattle.cdcl_watches.proofs.walk.rewatch.Goals.{After-swap}

pub clause-requires : goal.clause-requires
clause-requires c = next_standing c.requires.walked c.requires.there c.requires.head

pub swap-requires-clause-known : goal.swap-requires-clause-known
swap-requires-clause-known c = next_standing c.requires.walked c.requires.there c.requires.head

-- the watcher stands behind the list of the other literal
pushed : (c : After-swap) → c.push.new.self
    ≡ set c.args.lists.now (code c.args.other) (get_or c.args.lists.now (code c.args.other) [] ++ c.watch.result ∷ [])
pushed c = rw c.number-2.ensures at c.in_ok-push.ensures

pub returns-clause-walked : goal.returns-clause-walked
returns-clause-walked c =
    let arena = c.args.arena.now in
    let blocking = blocking_from arena.heads arena.clauses c.clause.result c.args.head 0 c.get-blocker.result c.watch.result c.watch.ensures.head
    c.watch.ensures.blocker c.get-blocker.ensures c.clause.ensures
    (omega (arith, next_long c.requires.walked c.requires.there c.requires.head, ap length c.clause.ensures))
    (next_standing c.requires.walked c.requires.there c.requires.head) in
    left_walked c.requires.walked c.requires.there c.requires.head c.requires.high c.requires.within c.requires.second c.requires.other
    c.watch.result c.watch.ensures.head c.push.new.self (pushed (goal.at.returns-clause-walked c).After-swap) blocking
    c.swap.new.self c.swap.ensures.heads c.swap.ensures.clauses

pub returns-clause-lists : goal.returns-clause-lists
returns-clause-lists c =
    let w = walk_in c.args.arena.now c.args.lists.now c.args.second c.args.walk.now in
    ap (λ hs. numbers hs (closed (left w c.push.new.self))) c.swap.ensures.heads
    ∙ left_lists c.requires.walked c.requires.there c.requires.head c.requires.high c.requires.within c.requires.second c.requires.other
    c.watch.result c.watch.ensures.head c.push.new.self (pushed (goal.at.returns-clause-lists c).After-swap)
