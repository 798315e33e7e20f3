use Rattle.std.proofs.Common.{length}
use Rattle.requirement_document.specs.Values.{document_in}
use Rattle.requirement_answers.specs.Items.{given_numbers}
use Rattle.requirement_answers.specs.Answers.{AreConflicts}
use Rattle.requirement_answers.specs.Inner.{AreItems}
use Rattle.requirement_answers.proofs.conflicts.set_aside.Given as goal

abbrev pub invariant-conflicts : goal.invariant-conflicts
invariant-conflicts g l = record {
  items : AreItems (document_in l.document) l.left.items;
  found : AreConflicts (document_in l.document) (given_numbers (document_in l.document)) l.conflicts.items l.left.items;
}

abbrev pub decreases-conflicts : goal.decreases-conflicts
decreases-conflicts g l = length l.left.items
