use Rattle.std.proofs.Common.{◌≡◌, ◌+◌, ◌≤◌, [], length}
use Rattle.batch_run.specs.Grouping.{Continues}
use Rattle.batch_run.proofs.lines.Rest.next_formula.Given as goal

abbrev pub invariant-lines : goal.invariant-lines
invariant-lines l = record {
  same : l.number ≡ l.self.number;
  passed : Continues l.fn.self.number l.fn.self.text.now l.self.number l.self.text.now [];
  room : l.self.number + length l.self.text.now ≤ l.fn.self.number + length l.fn.self.text.now;
  order : l.fn.self.number ≤ l.self.number;
}

abbrev pub decreases-lines : goal.decreases-lines
decreases-lines l = length l.self.text.now
