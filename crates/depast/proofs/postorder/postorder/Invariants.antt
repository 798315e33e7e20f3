use Rattle.depast.specs.Postorder.{Ends}
use Rattle.depast.proofs.Waiting.{nodes_on, AreThere}
use Rattle.depast.proofs.postorder.postorder.Given as goal

abbrev pub invariant-loop-number : goal.invariant-loop-number
invariant-loop-number l = record {
  order : Ends l.table l.waiting l.met l.root;
  there : AreThere l.table l.waiting;
}

abbrev pub decreases-loop-number : goal.decreases-loop-number
decreases-loop-number l = nodes_on l.table l.waiting
