use Rattle.std.proofs.Common.{ℕ, ◌≤◌, ◌^◌, ◌-◌, ◌+◌, length}
use Rattle.cdcl_analyze.specs.Waiting.{IsWaiting}
use Rattle.cdcl_analyze.proofs.waiting.Waiting.reach.Given as goal

abbrev pub invariant-up : goal.invariant-up
invariant-up l = record {
  kept : (p : ℕ) → IsWaiting l.initial.self-inside.words.items p → IsWaiting l.self-inside.words.items p;
  few : length l.self-inside.words.items ≤ 2 ^ 58;
}

abbrev pub decreases-up : goal.decreases-up
decreases-up l = l.word + 1 - length l.self-inside.words.items
