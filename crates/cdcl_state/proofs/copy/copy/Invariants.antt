use Rattle.std.proofs.Common.{◌≡◌, ◌-◌, IfSome, Contains, length}
use Rattle.cdcl_state.specs.Gathered.{IsCopied}
use Rattle.cdcl_state.proofs.Copying.{count_at}
use Rattle.cdcl_state.proofs.copy.copy.Given as goal

abbrev pub invariant-heads : goal.invariant-heads
invariant-heads l = record {
  head : IfSome l.next (Contains l.old.heads);
  lists : length l.watches.lists ≡ length l.initial.watches.lists;
  copied : IsCopied l.old.clauses l.old.names (count_at l.old.heads l.next) l.watches;
}

abbrev pub decreases-heads : goal.decreases-heads
decreases-heads l = length l.old.heads - count_at l.old.heads l.next
