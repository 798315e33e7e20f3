use Rattle.std.proofs.Common.{◌≡◌, length}
use Rattle.depast.specs.Counting.{AreCounts}
use Rattle.depast.proofs.Trees.{Seen}
use Rattle.depast.proofs.counts.counts_under.Given as goal

abbrev pub invariant-loop-number : goal.invariant-loop-number
invariant-loop-number l = record {
  long : length l.known.items ≡ l.number;
  known : AreCounts l.table l.known.items;
  seen : Seen l.table l.number;
}
