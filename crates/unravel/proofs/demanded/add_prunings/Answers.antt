use Rattle.std.proofs.Common.{sym, subst}
use Rattle.unravel.specs.Putting.{IsPartOf, HasMore}
use Rattle.unravel.proofs.demanded.add_prunings.Goals as goal

pub add_each_pruning-requires : goal.add_each_pruning-requires
add_each_pruning-requires c = subst (λ x. IsPartOf x c.args.inputs.now) (sym c.of-listed.ensures) c.requires.part

pub returns : goal.returns
returns c = subst (λ x. HasMore x c.args.inputs.now c.add_each_pruning.new.inputs) c.of-listed.ensures c.in_ok-add_each_pruning.ensures
