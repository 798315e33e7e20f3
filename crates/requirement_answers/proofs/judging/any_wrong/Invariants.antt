use Rattle.std.proofs.Common.{◌≡◌, false, take}
use Rattle.std.specs.List.{list_any}
use Rattle.requirement_answers.specs.Verdicts.{wrong_reply}
use Rattle.requirement_answers.proofs.judging.any_wrong.Given as goal

abbrev pub invariant-replies : goal.invariant-replies
invariant-replies l = record { none : list_any wrong_reply (take l.k l.replies) ≡ false }
