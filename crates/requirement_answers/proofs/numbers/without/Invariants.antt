use Rattle.std.proofs.Common.{◌≡◌, take}
use Rattle.requirement_answers.specs.Items.{without}
use Rattle.requirement_answers.proofs.numbers.without.Given as goal

abbrev pub invariant-numbers : goal.invariant-numbers
invariant-numbers l = record { so_far : l.rest.items ≡ without l.away (take l.k l.numbers) }
