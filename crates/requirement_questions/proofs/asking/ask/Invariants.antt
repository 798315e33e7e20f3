use Rattle.std.proofs.Common.{◌≡◌}
use Rattle.requirement_questions.proofs.asking.ask.Given as goal

abbrev pub invariant-turns : goal.invariant-turns
invariant-turns l = record { same : l.attempt ≡ l.fn.closure }
