use Rattle.std.proofs.Common.{◌-◌, IfSome, Contains, length, map}
use Rattle.cdcl_trail.specs.Entries.{hint_of}
use Rattle.cdcl_state.specs.Gathered.{AreThere}
use Rattle.cdcl_state.proofs.Copying.{count_at}
use Rattle.cdcl_state.proofs.gather.mark_watched.Given as goal

abbrev pub invariant-heads : goal.invariant-heads
invariant-heads l = record {
  head : IfSome l.next (Contains l.arena.heads);
  marked : AreThere (map hint_of l.arena.names) l.there.items;
}

abbrev pub decreases-heads : goal.decreases-heads
decreases-heads l = length l.arena.heads - count_at l.arena.heads l.next
