use Rattle.std.proofs.Common.{◌≡◌, take}
use Rattle.requirement_questions.specs.Members.{places}
use Rattle.requirement_answers.proofs.conflicts.member_numbers.Given as goal

abbrev pub invariant-members : goal.invariant-members
invariant-members l = record { so_far : l.numbers.items ≡ places (take l.k l.members) }
