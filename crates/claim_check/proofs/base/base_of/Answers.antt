use Rattle.std.proofs.Common.{subst}
use Rattle.ltl_syntax.specs.declared.node.Kind.TheVariants as Kinds
use Rattle.claim_check.specs.Bases.{HasBase}
use Rattle.claim_check.proofs.base.base_of.Goals as goal

pub returns-in-Finite-kind : goal.returns-in-Finite-kind
returns-in-Finite-kind c = λ has.
    let f = c.args.closure.now.formula in
    subst (λ e. HasBase f Kinds.Finite e) c.in-Some.is (subst (λ k. HasBase f k c.args.eventuality) c.in-Finite-kind.is has)
