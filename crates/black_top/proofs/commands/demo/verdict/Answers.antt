use Rattle.std.proofs.Common.{refl}
use Rattle.ltl_closure.specs.Run.{Sat, Unsat, Undecided}
use Rattle.black_top.proofs.commands.demo.verdict.Goals as goal

pub returns-in-Sat : goal.returns-in-Sat
returns-in-Sat c = let (limit, force, decision) = rw c.in-Sat.is at c.in_ok-depth.ensures in (limit, Sat c.in-Sat.depth, force, decision.0, refl)

pub returns-in-Unsat : goal.returns-in-Unsat
returns-in-Unsat c = let (limit, force, decision) = rw c.in-Unsat.is at c.in_ok-depth.ensures in (limit, Unsat c.in-Unsat.depth, force, decision.0, refl)

pub returns : goal.returns
returns c = let (limit, force, decision) = rw c.in-Undecided.is at c.in_ok-depth.ensures in (limit, Undecided c.in-Undecided.depth, force, decision, refl)
