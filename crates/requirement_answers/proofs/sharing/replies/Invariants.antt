use Rattle.std.proofs.Common.{◌-◌, length, take}
use Rattle.requirement_document.specs.Values.{document_in}
use Rattle.requirement_answers.specs.Inner.{AreReplies}
use Rattle.requirement_answers.proofs.sharing.replies.Given as goal

abbrev pub invariant-rounds : goal.invariant-rounds
invariant-rounds g l = record { so_far : AreReplies (document_in l.document) l.left (take l.from l.asks) l.found.items }

abbrev pub decreases-rounds : goal.decreases-rounds
decreases-rounds g l = length l.asks - l.from
