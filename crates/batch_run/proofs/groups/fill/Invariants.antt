use Rattle.std.proofs.Common.{◌≡◌, ◌+◌, ◌≤◌, length}
use Rattle.batch_run.specs.Grouping.{Continues, lines_of}
use Rattle.batch_run.proofs.groups.fill.Given as goal

abbrev pub invariant-places : goal.invariant-places
invariant-places l = record {
  count : length l.lines.items ≡ l._place;
  lines : Continues l.fn.rest.number l.fn.rest.text.now l.rest.number l.rest.text.now (lines_of l.lines.items);
  room : l.rest.number + length l.rest.text.now ≤ l.fn.rest.number + length l.fn.rest.text.now;
  pieces : length l.lines.items + l.fn.rest.number ≤ l.rest.number;
}
