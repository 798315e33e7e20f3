use Rattle.ltl_run.proofs.Normal.{norm_holds}
use Rattle.ltl_closure.specs.Norm.{NConst, disjunction}
use Rattle.std.proofs.Common.{true, false, not}
use Rattle.ltl_closure.proofs.Ranges.{iterated}
use Rattle.ltl_run.proofs.laws.normal_form.Goals as goal

pub returns-clause-same : goal.returns-clause-same
returns-clause-same c t f i good at = let r = norm_holds t good f true in (r.to i at, r.back i at)

pub returns-clause-negated : goal.returns-clause-negated
returns-clause-negated c t f i good at = let r = norm_holds t good f false in (r.to i at, r.back i at)

pub returns-clause-ranges : goal.returns-clause-ranges
returns-clause-ranges f some N a b c le = iterated (disjunction some) (NConst (not some)) N c a b le
