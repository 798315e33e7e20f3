use Rattle.std.proofs.Common.{◌≡◌, ◌≤◌, take, not}
use Rattle.std.specs.List.{count_by}
use Rattle.requirement_answers.specs.Verdicts.{has_break}
use Rattle.requirement_answers.proofs.counting.kept_count.Given as goal

abbrev pub invariant-checks : goal.invariant-checks
invariant-checks l = record {
  so_far : l.count ≡ count_by (λ c. not (has_break c)) (take l.k l.checks);
  few : l.count ≤ l.k;
}
