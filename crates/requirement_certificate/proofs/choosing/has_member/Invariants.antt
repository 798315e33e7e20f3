use Rattle.std.proofs.Common.{take, Contains}
use Rattle.requirement_questions.specs.Members.{places}
use Rattle.requirement_certificate.proofs.choosing.has_member.Given as goal

abbrev pub invariant-members : goal.invariant-members
invariant-members l = record { none : ¬ Contains (places (take l.place l.members)) l.item }
