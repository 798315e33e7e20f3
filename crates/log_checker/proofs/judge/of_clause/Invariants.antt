use Rattle.std.proofs.Common.{take}
use Rattle.cnf_base.specs.Step.{clause_at}
use Rattle.log_checker.specs.Values.{falses_in}
use Rattle.log_checker.specs.Judging.{IsOutcome}
use Rattle.log_checker.proofs.judge.of_clause.Given as goal

abbrev pub invariant-places : goal.invariant-places
invariant-places g l = IsOutcome (falses_in l.assignment) (take l.place (clause_at (g.C.Clauses.clauses l.clauses) l.number)) l.outcome
