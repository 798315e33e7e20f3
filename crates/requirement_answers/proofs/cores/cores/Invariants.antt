use Rattle.std.proofs.Common.{take}
use Rattle.requirement_document.specs.Values.{document_in}
use Rattle.requirement_answers.specs.Answers.{AreCores}
use Rattle.requirement_answers.proofs.cores.cores.Given as goal

abbrev pub invariant-conflicts : goal.invariant-conflicts
invariant-conflicts l = record { so_far : AreCores (document_in l.document) (take l.k l.conflicts) l.found.items }
