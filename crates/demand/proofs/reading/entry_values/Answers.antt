use Rattle.std.proofs.Common.{arith}
use Rattle.demand.proofs.Rooms.{entry_has_value}
use Rattle.demand.proofs.reading.entry_values.Goals as goal

pub value-requires : goal.value-requires
value-requires g c =
    entry_has_value c.args.layout.now c.args.step _ (g.V.Values.room c.args.values.now) c.entry-entry.result c.requires.room
    (c.requires.known c.loop-number.number-index 0 (omega arith)) c.entry-entry.ensures
