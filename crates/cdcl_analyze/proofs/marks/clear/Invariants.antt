use Rattle.std.proofs.Common.{◌≡◌, take, All, length}
use Rattle.cdcl_analyze.proofs.marks.clear.Given as goal

abbrev pub invariant-loop-i : goal.invariant-loop-i
invariant-loop-i l = record {
  size : length l.stamps ≡ length l.initial.stamps;
  zero : All (λ s. s ≡ 0) (take l.i l.stamps);
}
