use Rattle.std.proofs.Common.{◌-◌, ◌≤◌, length}
use Rattle.cert_text.specs.Skipped.{AreInOrder, AreSpaced}
use Rattle.cert_text.proofs.blocks.blocks_end.Given as goal

abbrev pub invariant-blocks-2 : goal.invariant-blocks-2
invariant-blocks-2 l = (l.at ≤ l.end) × (l.end ≤ length l.bytes) × AreInOrder l.bytes l.at l.end × AreSpaced l.bytes l.at l.end

abbrev pub decreases-blocks-2 : goal.decreases-blocks-2
decreases-blocks-2 l = length l.bytes - l.end
