use Rattle.std.proofs.Common.{◌≡◌, take, map}
use Rattle.requirement_answers.specs.Inner.{renumbered}
use Rattle.requirement_answers.proofs.renumbering.item_members.Given as goal

abbrev pub invariant-members : goal.invariant-members
invariant-members l = record { so_far : l.found.items ≡ map (renumbered l.numbers) (take l.k l.members) }
