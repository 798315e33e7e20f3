use Rattle.std.proofs.Common.{arith}
use Rattle.batch_run.proofs.Grouped.{one_taken, one_longer}
use Rattle.batch_run.proofs.groups.fill.Goals as goal

pub places-preserved : goal.places-preserved
places-preserved c =
    let old = c.places.invariant in
    let first = c.args.rest.now in
    let before = c.places.rest in
    let after = c.next_formula.new.self in
    let more = one_longer c.places.lines.items c.push.new.self.items _ c.in_ok-push-in-Some.ensures.items in
    record {
      count = omega (arith, more, old.count);
      lines = one_taken first.number first.text.now before.number before.text.now after.number after.text.now c.places.lines.items c.push.new.self.items _
          c.in_ok-push-in-Some.ensures.items old.lines c.in-Some.ensures.found;
      room = omega (arith, old.room, c.in-Some.ensures.room);
      pieces = omega (arith, more, old.pieces, c.in-Some.ensures.moves);
    }
