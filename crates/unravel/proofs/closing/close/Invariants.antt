use Rattle.std.specs.Prelude.{◌≡◌, ◌+◌, ◌≤◌}
use Rattle.unravel.specs.Depths.{AreRejections}
use Rattle.unravel.proofs.closing.close.Given as goal

abbrev pub invariant-loop-state : goal.invariant-loop-state
invariant-loop-state l = record {
  upto : l.state ≤ l.depth + 1;
  letters : l.solver.letters ≡ l.fn.solver.letters;
  inputs : l.solver.log.inputs ≡ l.fn.solver.log.inputs;
  rejected : AreRejections l.closure.formula l.closure.kind l.state l.solver.log.lines l.targets.items;
}
