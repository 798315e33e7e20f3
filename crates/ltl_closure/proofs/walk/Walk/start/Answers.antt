use Rattle.std.proofs.Common.{arith}
use Rattle.ltl_closure.proofs.Walks.{starts}
use Rattle.ltl_closure.proofs.walk.Walk.start.Goals as goal

pub returns-clause-at : goal.returns-clause-at
returns-clause-at c =
    rw (c.new.ensures.keys, c.new.ensures.entries, c.new-2.ensures.items, c.in_ok-push.ensures.items, c.new-work.ensures.items)
    (starts c.args.table.now c.args.root c.in_ok-new.field-0 c.letters-letters.ensures.distinct (omega (
      arith,
      c.size-size.ensures.size,
      c.size-size.ensures.few,
    )) c.requires (rw (← c.len.ensures.count) c.in_ok-new.ensures.room) c.in_ok-new.ensures.zero)
