use Rattle.std.proofs.Common.{◌≡◌, ◌+◌, ◌-◌, ◌≤◌, length}
use Rattle.ltl_io.specs.Outside.{Loses}
use Rattle.ltl_io.proofs.source.read_whole.Given as goal

abbrev pub invariant-reads : goal.invariant-reads
invariant-reads g l = record {
  taken : Loses l.bytes.items (g.S.Source.rest l.fn.source) (g.S.Source.rest l.source);
  bounded : length l.bytes.items ≤ l.stop_after + 65536;
  count : g.S.Source.faults l.source ≡ g.S.Source.faults l.fn.source;
}

abbrev pub decreases-reads : goal.decreases-reads
decreases-reads g l = l.stop_after + 1 - length l.bytes.items
