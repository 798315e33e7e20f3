use Rattle.std.specs.List.{All}
use Rattle.requirement_questions.specs.Formulas.{IsThere}
use Rattle.requirement_tests.proofs.questions.given_of.Given as goal

abbrev pub invariant-tables : goal.invariant-tables
invariant-tables l = record { there : All IsThere l.given.items }
