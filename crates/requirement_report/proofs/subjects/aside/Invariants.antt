use Rattle.std.proofs.Common.{◌≡◌}
use Rattle.requirement_document.specs.Values.{document_in}
use Rattle.requirement_report.specs.Subjects.{aside_below}
use Rattle.requirement_report.proofs.subjects.aside.Given as goal

abbrev pub invariant-items : goal.invariant-items
invariant-items l = l.members.items ≡ aside_below (document_in l.document) l.left l.number
