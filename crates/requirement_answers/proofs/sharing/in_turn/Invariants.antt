use Rattle.std.proofs.Common.{take}
use Rattle.requirement_document.specs.Values.{document_in}
use Rattle.requirement_answers.specs.Inner.{AreReplies}
use Rattle.requirement_answers.proofs.sharing.in_turn.Given as goal

abbrev pub invariant-asks : goal.invariant-asks
invariant-asks l = record { so_far : AreReplies (document_in l.document) l.left (take l.k l.asks) l.found.items }
