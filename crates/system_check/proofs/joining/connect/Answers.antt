use Rattle.std.proofs.Common.{arith}
use Rattle.formula_copy.proofs.Pushed.{pushed_size, pushed_length}
use Rattle.system_check.proofs.Connecting.{last_two}
use Rattle.system_check.proofs.joining.connect.Goals as goal

pub put-requires-2-clause-room : goal.put-requires-2-clause-room
put-requires-2-clause-room c = omega (arith, pushed_size c.in_ok-always.ensures.pushes, c.requires.room)

pub put-requires-3-clause-room : goal.put-requires-3-clause-room
put-requires-3-clause-room c = omega (arith, pushed_size c.in_ok-always.ensures.pushes, pushed_size c.in_ok-system.ensures.pushes, c.requires.room)

pub put-requires-4-clause-room : goal.put-requires-4-clause-room
put-requires-4-clause-room c = omega
    (arith, pushed_size c.in_ok-always.ensures.pushes, pushed_size c.in_ok-system.ensures.pushes, pushed_size c.in_ok-failing.ensures.pushes, c.requires.room)

pub put-requires-4-clause-may : goal.put-requires-4-clause-may
put-requires-4-clause-may c =
    last_two c.put.new.table c.put-2.new.table c.put-3.new.table c.args.copies.start c.in_ok-always.always c.args.copies.goal c.in_ok-system.system
    c.in_ok-failing.failing c.in_ok-system.ensures.pushes c.in_ok-failing.ensures.pushes
    (omega (arith, pushed_length c.in_ok-always.ensures.pushes, c.requires.copies.goal.0)) c.in_ok-system.ensures.number c.in_ok-failing.ensures.number
