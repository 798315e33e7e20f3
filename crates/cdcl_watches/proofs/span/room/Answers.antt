use Rattle.std.proofs.Common.{arith}
use Rattle.cdcl_watches.proofs.Rooms.{room_found}
use Rattle.cdcl_watches.proofs.span.room.Goals as goal

pub returns : goal.returns
returns c = room_found c.args.class (omega (arith, c.if-class-eq0.false)) c.requires
