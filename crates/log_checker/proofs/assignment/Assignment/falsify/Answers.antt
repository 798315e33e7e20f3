use Rattle.std.proofs.Common.{arith}
use Rattle.log_checker.proofs.Setting.{room_left, set_more}
use Rattle.log_checker.proofs.assignment.Assignment.falsify.Goals as goal

pub index_mut-requires : goal.index_mut-requires
index_mut-requires c = omega
    (arith, room_left _ _ _ c.args.literal.letter.0 c.self.invariant (rw (← c.self.view_is) at c.requires.known) (rw (← c.self.view_is) at c.requires.unset))

pub invariant_of-self : goal.invariant_of-self
invariant_of-self c =
    rw c.where_false.ensures (set_more _ _ _ c.args.literal.letter.0 c.args.literal.negated c.self.invariant (rw (← c.self.view_is) at c.requires.known)
    (rw (← c.self.view_is) at c.requires.unset))
