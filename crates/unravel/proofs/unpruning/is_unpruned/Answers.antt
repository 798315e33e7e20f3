use Rattle.unravel.proofs.Putting.{ready_still, still_none, still_then}
use Rattle.unravel.proofs.unpruning.is_unpruned.Goals as goal

pub turns-init : goal.turns-init
turns-init c = record { still = still_none c.requires.ready.through }

pub take_turn-requires-clause-ready : goal.take_turn-requires-clause-ready
take_turn-requires-clause-ready c = ready_still c.requires.ready c.turns.invariant.still

pub turns-preserved : goal.turns-preserved
turns-preserved c = record { still = still_then c.turns.invariant.still c.in_ok-take_turn.ensures.still }

pub returns-in-Unpruned-clause-still : goal.returns-in-Unpruned-clause-still
returns-in-Unpruned-clause-still c = still_then c.turns.invariant.still c.in_ok-take_turn.ensures.still

pub returns-in-Never-clause-still : goal.returns-in-Never-clause-still
returns-in-Never-clause-still c = still_then c.turns.invariant.still c.in_ok-take_turn.ensures.still

pub end-requires-clause-ready : goal.end-requires-clause-ready
end-requires-clause-ready c = ready_still c.requires.ready c.turns.invariant.still

pub returns-clause-still : goal.returns-clause-still
returns-clause-still c = still_then c.turns.invariant.still c.in_ok-answer.ensures.still
