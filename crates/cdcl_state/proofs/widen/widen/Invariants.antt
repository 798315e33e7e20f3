use Rattle.std.proofs.Common.{◌≡◌, ◌+◌, ◌*◌, ◌-◌, ◌^◌, ◌≤◌, length}
use Rattle.cdcl_state.proofs.widen.widen.Given as goal

abbrev pub invariant-more : goal.invariant-more
invariant-more l = record {
  trail : l.assigned.trail ≡ l.fn.assigned.trail;
  clauses : l.watches.clauses ≡ l.fn.watches.clauses;
  names : l.watches.names ≡ l.fn.watches.names;
  sized : length l.watches.lists ≡ 2 * length l.assigned.values;
  more : length l.fn.assigned.values ≤ length l.assigned.values;
  few : length l.assigned.values ≤ 2 ^ 32;
  marks : length l.assigned.values ≤ length l.marks.stamps;
  held : l.choices.held ≡ l.fn.choices.held;
}

abbrev pub decreases-more : goal.decreases-more
decreases-more l = l.count + 1 - length l.assigned.values
