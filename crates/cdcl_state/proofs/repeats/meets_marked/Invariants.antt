use Rattle.std.proofs.Common.{◌≡◌, ℕ, take, length, All}
use Rattle.cdcl_watches.specs.Watching.{AreApart}
use Rattle.cdcl_analyze.specs.Marks.{IsMarked}
use Rattle.cdcl_state.specs.State.{HasLettersOnce}
use Rattle.cdcl_state.proofs.Marking.{StandsBefore}
use Rattle.cdcl_state.proofs.repeats.meets_marked.Given as goal

abbrev pub invariant-loop-literal : goal.invariant-loop-literal
invariant-loop-literal l = record {
  size : length l.marks.stamps ≡ length l.initial.marks.stamps;
  marked : All (λ m. IsMarked l.marks m.letter.0) (take l.literal-index l.clause);
  apart : AreApart (take l.literal-index l.clause);
  once : HasLettersOnce (take l.literal-index l.clause);
  before : (x : ℕ) → IsMarked l.marks x → StandsBefore l.clause l.literal-index x;
}
