use Rattle.std.proofs.Common.{take}
use Rattle.requirement_document.specs.Values.{document_in}
use Rattle.requirement_answers.specs.Inner.{AreChecks}
use Rattle.requirement_answers.proofs.checking.checks.Given as goal

abbrev pub invariant-behaviours : goal.invariant-behaviours
invariant-behaviours l = record { so_far : AreChecks (document_in l.document) l.given (take l.k l.behaviours) l.found.items }
