use Rattle.std.proofs.Common.{◌≡◌, set, ◌∙◌, arith, length-set}
use Rattle.std.specs.List.{remove_range}
use Rattle.cdcl_watches.specs.Watching.{code}
use Rattle.cdcl_watches.specs.Watchers.{ListWalk, IsBlocking, walk_in, row_of}
use Rattle.cdcl_watches.proofs.Walks.{row_with, first_blocking, first_fits, stayed_walked, stayed_same}
use Rattle.cdcl_watches.proofs.walk.keep.Goals as goal
use Rattle.cdcl_watches.proofs.walk.keep.Goals.{After-pass}

-- the walk before the call
abbrev start : After-pass → ListWalk
start c = walk_in c.args.arena.now c.args.lists.now c.args.literal c.args.walk.now

blocking : (c : After-pass) → IsBlocking c.args.arena.now.heads c.args.arena.now.clauses c.watch.result
blocking c = first_blocking c.requires.walked c.requires.there c.requires.head c.requires.first c.watch.result c.watch.ensures.head c.watch.ensures.blocker

lists : (c : After-pass) → c.pass.new.lists ≡ set c.args.lists.now (code c.args.literal) (row_with (start c) c.watch.result)
lists c = rw c.number.ensures at c.pass.ensures.lists

pub returns-clause-walked : goal.returns-clause-walked
returns-clause-walked c =
    let after = (goal.at.returns-clause-walked c).After-pass in
    rw (lists after, c.pass.ensures.kept, c.pass.ensures.next)
    (stayed_walked c.requires.walked c.requires.there c.watch.result (c.watch.ensures.head ∙ c.requires.head) (blocking after))

pub returns-clause-same : goal.returns-clause-same
returns-clause-same c =
    let after = (goal.at.returns-clause-same c).After-pass in
    rw (lists after, c.pass.ensures.kept, c.pass.ensures.next)
    (stayed_same c.requires.walked c.requires.there c.watch.result (c.watch.ensures.head ∙ c.requires.head) (blocking after))

pub watch-requires : goal.watch-requires
watch-requires c =
    let w = walk_in c.args.arena.now c.args.lists.now c.args.literal c.args.walk.now in
    omega (
      arith,
      first_fits c.requires.walked c.requires.there c.requires.head c.requires.first,
      c.invariant-2.ensures,
      length-set w.lists (code w.literal) (remove_range (row_of w) w.at.kept w.at.next),
    )
