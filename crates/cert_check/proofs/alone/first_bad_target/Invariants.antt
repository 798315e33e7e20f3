use Rattle.std.proofs.Common.{◌≡◌, ℕ, ◌<◌, ◌≤◌, ◌+◌, drop, get_or}
use Rattle.cert_check.specs.Walk.{IsGoodKept}
use Rattle.cert_check.proofs.alone.first_bad_target.Given as goal

abbrev pub invariant-targets : goal.invariant-targets
invariant-targets l = record {
  can : (goal.iterator-targets).can_next l.target-iterator;
  finite : (goal.iterator-targets).is_finite l.target-iterator;
  left : l.target-iterator ≡ drop l.index l.fn.targets;
  low : l.index ≤ l.depth + 2;
  good : (k : ℕ) → k < l.index → IsGoodKept l.closure.formula l.closure.kind l.depth l.checker.live k (get_or l.fn.targets k 0);
}
