use Rattle.std.proofs.Common.{◌≡◌}
use Rattle.requirement_questions.specs.Members.{counted}
use Rattle.requirement_questions.proofs.members.first_members.Given as goal

abbrev pub invariant-places : goal.invariant-places
invariant-places l = record { so_far : l.members.items ≡ counted l.place }
