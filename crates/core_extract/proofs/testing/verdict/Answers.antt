use Rattle.core_extract.proofs.Deciding.{refuted_by, satisfied_by, undecided_by}
use Rattle.core_extract.proofs.testing.verdict.Goals as goal

pub returns-in-Sat : goal.returns-in-Sat
returns-in-Sat c =
    let (limit, force, decision) = rw c.in-Sat.is at c.in_ok-decision.ensures in
    satisfied_by _ _ _ _ _ _ _ c.in_ok-closure.ensures.formula c.in_ok-closure.ensures.kind force decision.0

pub returns-in-Unsat : goal.returns-in-Unsat
returns-in-Unsat c =
    let (limit, force, decision) = rw c.in-Unsat.is at c.in_ok-decision.ensures in
    refuted_by _ _ _ _ _ _ _ c.in_ok-closure.ensures.formula c.in_ok-closure.ensures.kind force decision.0

pub returns : goal.returns
returns c =
    let (limit, force, decision) = rw c.in-Undecided.is at c.in_ok-decision.ensures in
    undecided_by _ _ _ _ _ _ _ c.in_ok-closure.ensures.formula c.in_ok-closure.ensures.kind force decision
