use Rattle.std.proofs.Common.{sym, subst, All, Contains}
use Rattle.unravel.specs.Putting.{list_of, IsPartOf, HasMore}
use Rattle.unravel.proofs.rest.add_rest.Goals as goal

pub add_missing-requires : goal.add_missing-requires
add_missing-requires c = subst (λ x. IsPartOf x c.args.inputs.now) (sym c.of-listed.ensures) c.requires.part

pub returns-clause-more : goal.returns-clause-more
returns-clause-more c = subst (λ x. HasMore x c.args.inputs.now c.add_missing.new.inputs) c.of-listed.ensures c.in_ok-add_missing.ensures.more

pub returns-clause-whole : goal.returns-clause-whole
returns-clause-whole c =
    subst (λ x. All (Contains c.add_missing.new.inputs.solver.log.inputs) (list_of x)) c.of-listed.ensures c.in_ok-add_missing.ensures.whole
