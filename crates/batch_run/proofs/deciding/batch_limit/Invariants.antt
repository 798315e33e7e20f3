use Rattle.std.proofs.Common.{ℕ, ◌≤◌}
use Rattle.batch_run.specs.Outcomes.{HasFewLetters}
use Rattle.batch_run.proofs.deciding.batch_limit.Given as goal

abbrev pub invariant-depths : goal.invariant-depths
invariant-depths l = record { below : l.depth ≤ l.asked; greatest : (d : ℕ) → d ≤ l.asked → HasFewLetters l.closure.formula l.closure.kind d → d ≤ l.depth }

abbrev pub decreases-depths : goal.decreases-depths
decreases-depths l = l.depth
