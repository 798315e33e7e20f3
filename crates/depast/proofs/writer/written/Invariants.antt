use Rattle.std.proofs.Common.{ℕ, List, length}
use Rattle.depast.specs.Postorder.{Ends}
use Rattle.depast.specs.Symbols.{Letters}
use Rattle.depast.specs.Writing.{IsDoneBy, MeansNames, trees_at}
use Rattle.depast.proofs.writer.written.Given as goal

abbrev pub invariant-loop-number : goal.invariant-loop-number
invariant-loop-number l =
    (done : List ℕ) × Ends l.table done l.order l.root × ((m : Letters) → MeansNames m l.table → IsDoneBy m (trees_at l.table done) l.writer)

abbrev pub decreases-loop-number : goal.decreases-loop-number
decreases-loop-number l = length l.order
