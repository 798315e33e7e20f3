use Rattle.std.proofs.Common.{◌++◌, Contains, get_or, below_more, subst, refl}
use Rattle.std.proofs.lemmas.List.{get_or_default}
use Rattle.cnf_base.specs.declared.literal.Literal.{Literal}
use Rattle.claim_check.proofs.targets.are_among.Goals as goal

pub literals-preserved : goal.literals-preserved
literals-preserved c k lt d =
    below_more (λ k. (d : Literal) → Contains (c.args.claim.now ++ c.args.others.now) (get_or c.args.literals.now k d))
    c.literals.literal-index c.literals.invariant
    (λ d. subst (Contains (c.args.claim.now ++ c.args.others.now)) (get_or_default c.args.literals.now c.literals.literal-index _ d c.literals-test.true)
    (c.if-not-is_among.ensures.0 refl))
    k lt d
