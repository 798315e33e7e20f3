use Rattle.std.proofs.Common.{arith}
use Rattle.unravel.proofs.Rooms.{entry_has_value}
use Rattle.unravel.proofs.showing.entry_values.Goals as goal

pub value-requires : goal.value-requires
value-requires c =
    entry_has_value c.args.layout.now c.args.step _ c.args.solver.now c.entry-entry.result c.requires.room
    (c.requires.known c.loop-number.number-index 0 (omega arith)) c.entry-entry.ensures
