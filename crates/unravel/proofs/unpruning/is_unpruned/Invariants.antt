use Rattle.unravel.specs.Depths.{IsStillThrough}
use Rattle.unravel.proofs.unpruning.is_unpruned.Given as goal

abbrev pub invariant-turns : goal.invariant-turns
invariant-turns l = record { still : IsStillThrough l.closure.formula l.closure.kind l.depth l.fn.inputs l.inputs l.fn.states.items l.states.items }
