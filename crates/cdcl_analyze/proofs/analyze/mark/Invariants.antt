use Rattle.std.proofs.Common.{◌≡◌, ℕ, take, All, length}
use Rattle.cdcl_analyze.specs.Analysis.{AreWaiting}
use Rattle.cdcl_analyze.specs.Marks.{IsMarked, FoundSame}
use Rattle.cdcl_analyze.specs.Reason.{read_literals}
use Rattle.cdcl_analyze.proofs.analyze.mark.Given as goal

abbrev pub invariant-loop-place : goal.invariant-loop-place
invariant-loop-place l = record {
  kept : (x : ℕ) → IsMarked l.initial.marks x → IsMarked l.marks x;
  size : length l.marks.stamps ≡ length l.initial.marks.stamps;
  seen : All (λ m. IsMarked l.marks m.letter.0) (take l.place (read_literals l.clause));
  waiting : (end : ℕ) → AreWaiting l.graph.trail end l.initial.marks → AreWaiting l.graph.trail end l.marks;
  found : FoundSame l.initial.marks l.marks;
}
