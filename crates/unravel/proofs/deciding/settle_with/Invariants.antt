use Rattle.unravel.specs.Settling.{IsStillOpen}
use Rattle.unravel.proofs.deciding.settle_with.Given as goal

abbrev pub invariant-loop-depth : goal.invariant-loop-depth
invariant-loop-depth l = record { open-before : IsStillOpen l.closure.formula l.closure.kind l.depth l.inputs l.states.items }
