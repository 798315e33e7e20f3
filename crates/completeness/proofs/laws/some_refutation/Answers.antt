use Rattle.completeness.proofs.Counted.{clauses_are_few}
use Rattle.completeness.proofs.Refuted.{refutation_is_there}
use Rattle.completeness.proofs.Sought.{refutations_are_decided}
use Rattle.completeness.proofs.laws.some_refutation.Goals as goal

pub returns-clause-there : goal.returns-clause-there
returns-clause-there c = refutation_is_there

pub returns-clause-few : goal.returns-clause-few
returns-clause-few c = clauses_are_few

pub returns-clause-decided : goal.returns-clause-decided
returns-clause-decided c = refutations_are_decided
