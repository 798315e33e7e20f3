use Rattle.std.proofs.Common.{◌≡◌, ◌≤◌, length}
use Rattle.cdcl_analyze.specs.Analysis.{AreWaiting}
use Rattle.cdcl_analyze.specs.Consequences.{IsRest}
use Rattle.cdcl_analyze.proofs.analyze.keep_rest.Given as goal

abbrev pub invariant-down : goal.invariant-down
invariant-down l = record {
  rest : IsRest l.graph.log.inputs l.graph.log.lines l.graph.trail l.base l.from l.end l.initial.marks l.marks l.initial.learnt.clause.items
      l.initial.learnt.places.items l.learnt.clause.items l.learnt.places.items;
  hints : l.learnt.hints.items ≡ l.initial.learnt.hints.items;
  size : length l.marks.stamps ≡ length l.initial.marks.stamps;
  waiting : AreWaiting l.graph.trail l.end l.marks;
  low : l.base ≤ l.end;
  high : l.end ≤ l.from;
}

abbrev pub decreases-down : goal.decreases-down
decreases-down l = l.end
