use Rattle.claims.proofs.Refuting.{lawful_has_no_trace}
use Rattle.claims.proofs.laws.nothing_satisfies.Goals as goal

pub returns : goal.returns
returns c = lawful_has_no_trace
