use Rattle.std.proofs.Common.{◌≡◌, ℕ, ◌+◌, ◌*◌, ◌<◌, ◌⊎◌, take, All, length}
use Rattle.cdcl_trail.specs.Trail.{literal_at}
use Rattle.cdcl_analyze.specs.Consequences.{IsGiven, Grows}
use Rattle.cdcl_analyze.specs.Reason.{read_literals}
use Rattle.cdcl_analyze.proofs.minimize.+following.Given as goal

abbrev pub decreases-are_given : goal.decreases-are_given
decreases-are_given l = 3 * l.steps + 3

abbrev pub decreases-ask : goal.decreases-ask
decreases-ask l = 3 * l.steps + 2

abbrev pub decreases-derive : goal.decreases-derive
decreases-derive l = 3 * l.steps + 1

abbrev pub invariant-are_given-others : goal.invariant-are_given-others
invariant-are_given-others l = record {
  size : length l.marks.stamps ≡ length l.initial.marks.stamps;
  given : All (λ m. (m.letter.0 ≡ l.letter) ⊎ IsGiven l.graph.trail l.base l.marks m.letter.0) (take l.place (read_literals l.clause));
  grows : (place : ℕ) → place < length l.graph.trail → (literal_at l.graph.trail place).letter.0 ≡ l.letter
      → Grows l.graph.log.inputs l.graph.log.lines l.graph.trail l.base place l.initial.marks l.marks;
}
