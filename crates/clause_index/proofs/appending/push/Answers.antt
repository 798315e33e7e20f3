use Rattle.std.proofs.Common.{◌<◌, length, arith}
use Rattle.clause_index.specs.Literals.{literals}
use Rattle.clause_index.proofs.Filling.{longer}
use Rattle.clause_index.proofs.appending.push.Goals as goal

pub places-preserved : goal.places-preserved
places-preserved c =
    longer c.args.list.now (literals c.args.clause.now) c.places.list c.lengthen.new.self c.places.place c.literal.result
    (omega (arith, c.places-test.true, c.len-place-end.ensures)) c.literal.ensures c.places.invariant c.in_ok-lengthen.ensures
