use Rattle.std.proofs.Common.{◌≡◌, ◌≤◌, take}
use Rattle.std.specs.List.{count_by}
use Rattle.requirement_answers.specs.Counting.{good_so}
use Rattle.requirement_answers.proofs.counting.good_count.Given as goal

abbrev pub invariant-replies : goal.invariant-replies
invariant-replies l = record {
  so_far : l.count ≡ count_by (good_so l.sort) (take l.k l.replies);
  few : l.count ≤ l.k;
}
