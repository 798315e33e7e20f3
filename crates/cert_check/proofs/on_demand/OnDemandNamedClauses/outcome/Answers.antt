use Rattle.std.proofs.Common.{subst}
use Rattle.log_checker.specs.Values.{falses_in}
use Rattle.log_checker.specs.Judging.{IsOutcome}
use Rattle.cert_check.proofs.on_demand.OnDemandNamedClauses.outcome.Goals as goal

pub returns : goal.returns
returns c = subst (λ clause. IsOutcome (falses_in c.args.assignment.now) clause c.of_found.result) c.clause.ensures c.of_found.ensures
