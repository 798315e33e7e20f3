use Rattle.std.proofs.Common.{sym, subst}
use Rattle.unravel.specs.Putting.{IsPartOf, HasMore}
use Rattle.unravel.proofs.demanded.add_constraints.Goals as goal

pub add_each-requires : goal.add_each-requires
add_each-requires c = subst (λ x. IsPartOf x c.args.inputs.now) (sym c.of-listed.ensures) c.requires.part

pub returns : goal.returns
returns c = subst (λ x. HasMore x c.args.inputs.now c.add_each.new.inputs) c.of-listed.ensures c.in_ok-add_each.ensures
