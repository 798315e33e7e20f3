use Rattle.std.proofs.Common.{◌≡◌, reverse}
use Rattle.ltl_closure.specs.Plan.{weights}
use Rattle.ltl_closure.specs.Walking.{IsAt}
use Rattle.ltl_closure.proofs.walk.walk_from.Given as goal

abbrev pub invariant-loop-work : goal.invariant-loop-work
invariant-loop-work l = record {
  at : IsAt l.table l.walk (reverse l.walk.work.items);
  root : l.walk.root ≡ l.fn.root;
}

abbrev pub decreases-loop-work : goal.decreases-loop-work
decreases-loop-work l = weights l.table (reverse l.walk.work.items)
