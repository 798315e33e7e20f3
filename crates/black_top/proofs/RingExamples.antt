-- The nodes of some rings, computed: a change of the definitions shows here.
use Rattle.std.proofs.Common.{◌≡◌, refl}
use Rattle.ltl_syntax.specs.Formula.{nodes_in}
use Rattle.black_top.specs.Demo.{ring}

nodes_two : nodes_in (ring 2) ≡ 27
nodes_two = refl

nodes_four : nodes_in (ring 4) ≡ 77
nodes_four = refl

nodes_most : nodes_in (ring 64) ≡ 12737
nodes_most = refl
