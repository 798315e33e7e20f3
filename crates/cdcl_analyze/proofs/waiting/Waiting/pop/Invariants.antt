use Rattle.std.proofs.Common.{ℕ, ◌<◌, ◌≤◌, ◌^◌, ◌+◌, length}
use Rattle.std.specs.List.{sum_by}
use Rattle.cdcl_analyze.specs.Waiting.{IsWaiting}
use Rattle.cdcl_analyze.proofs.waiting.Waiting.pop.Given as goal

abbrev pub invariant-down : goal.invariant-down
invariant-down l = record {
  kept : (p : ℕ) → p < l.end → IsWaiting l.initial.self-inside.words.items p → IsWaiting l.self-inside.words.items p;
  few : length l.self-inside.words.items ≤ 2 ^ 58;
}

abbrev pub decreases-down : goal.decreases-down
decreases-down l = sum_by (λ x. x + 1) l.self-inside.words.items
