use Rattle.std.proofs.Common.{ℕ, List, length}
use Rattle.depast.specs.Postorder.{Ends}
use Rattle.depast.specs.Sources.{AreSources, meanings_by}
use Rattle.depast.specs.Writing.{trees_at}
use Rattle.depast.proofs.sources.sources.Given as goal

abbrev pub invariant-loop-number : goal.invariant-loop-number
invariant-loop-number l = (done : List ℕ) × Ends l.table done l.order l.root × AreSources l.table l.root l.sources.items (meanings_by (trees_at l.table done))

abbrev pub decreases-loop-number : goal.decreases-loop-number
decreases-loop-number l = length l.order
