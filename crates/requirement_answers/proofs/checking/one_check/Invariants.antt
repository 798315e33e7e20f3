use Rattle.std.proofs.Common.{take}
use Rattle.requirement_document.specs.Values.{document_in}
use Rattle.requirement_answers.specs.Checks.{trace_of, AreFindings}
use Rattle.requirement_answers.proofs.checking.one_check.Given as goal

abbrev pub invariant-given : goal.invariant-given
invariant-given l = record { so_far : AreFindings (document_in l.document) (trace_of (document_in l.document) l.behaviour) (take l.k l.given) l.breaks.items }
