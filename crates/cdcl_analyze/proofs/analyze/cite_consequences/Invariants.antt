use Rattle.std.proofs.Common.{◌≡◌, ◌≤◌, ◌++◌, length, map, reverse, drop}
use Rattle.cdcl_analyze.proofs.analyze.cite_consequences.Given as goal

abbrev pub invariant-down : goal.invariant-down
invariant-down l = record {
  fits : l.count ≤ length l.consequences;
  clause : l.learnt.clause.items ≡ l.initial.learnt.clause.items;
  places : l.learnt.places.items ≡ l.initial.learnt.places.items;
  hints : l.learnt.hints.items ≡ l.initial.learnt.hints.items ++ reverse (map (λ c. c.reason) (drop l.count l.consequences));
}

abbrev pub decreases-down : goal.decreases-down
decreases-down l = l.count
