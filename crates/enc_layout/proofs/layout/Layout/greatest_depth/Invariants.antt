use Rattle.std.proofs.Common.{ℕ, ◌≤◌}
use Rattle.enc_layout.specs.Letters.{Fits}
use Rattle.enc_layout.proofs.layout.Layout.greatest_depth.Given as goal

abbrev pub invariant-loop-depth : goal.invariant-loop-depth
invariant-loop-depth l = record {
  below : l.depth ≤ l.at_most;
  beyond : (d : ℕ) → d ≤ l.at_most → Fits l.self d → d ≤ l.depth;
}

abbrev pub decreases-loop-depth : goal.decreases-loop-depth
decreases-loop-depth l = l.depth
