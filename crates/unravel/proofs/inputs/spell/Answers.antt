use Rattle.std.proofs.Common.{arith}
use Rattle.clause_index.specs.Literals.{literals}
use Rattle.unravel.proofs.Spelled.{one_longer}
use Rattle.unravel.proofs.inputs.spell.Goals as goal

pub places-preserved : goal.places-preserved
places-preserved c =
    one_longer (literals c.args.found.now) c.places.clause.items c.push.new.self.items c.places.place c.literal.result
    (omega (arith, c.places-test.true, c.len-place-end.ensures)) c.literal.ensures
    c.places.invariant c.in_ok-push.ensures.items
