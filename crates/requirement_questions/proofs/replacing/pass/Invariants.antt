use Rattle.std.proofs.Common.{◌-◌, length, IfSome}
use Rattle.core_extract.specs.Testing.{formula_of}
use Rattle.requirement_questions.specs.Replacing.{IsReplaced}
use Rattle.requirement_questions.proofs.Passing.{AreBefore}
use Rattle.requirement_questions.proofs.replacing.pass.Given as goal

abbrev pub invariant-places : goal.invariant-places
invariant-places l = record {
  before : AreBefore l.task l.marks.items l.at;
  held : IfSome l.held (λ r. IsReplaced l.task.kind (formula_of l.task) r.value);
}

abbrev pub decreases-places : goal.decreases-places
decreases-places l = length l.task.order.items - l.at
