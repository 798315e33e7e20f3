use Rattle.std.proofs.Common.{◌≡◌, ◌<◌, ℕ, true}
use Rattle.lasso_eval.specs.Rows.{cell, row_at}
use Rattle.requirement_questions.proofs.failure.first_false.Given as goal

abbrev pub invariant-positions : goal.invariant-positions
invariant-positions l = record { before : (i : ℕ) → i < l.position → cell (row_at l.rows l.node) i ≡ true }
