use Rattle.std.proofs.Common.{take}
use Rattle.clause_index.specs.Literals.{literals}
use Rattle.log_checker.specs.Values.{falses_in}
use Rattle.log_checker.specs.Judging.{IsOutcome}
use Rattle.cert_check.proofs.on_demand.of_found.Given as goal

abbrev pub invariant-places : goal.invariant-places
invariant-places l = IsOutcome (falses_in l.assignment) (take l.place (literals l.clause)) l.outcome
