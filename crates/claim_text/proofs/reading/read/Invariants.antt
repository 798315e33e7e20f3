use Rattle.std.proofs.Common.{◌≡◌, ◌-◌, ◌≤◌, length, take, Some}
use Rattle.claim_text.specs.Scan.{start, run}
use Rattle.claim_text.specs.Stored.{draft_in, ArePaired}
use Rattle.claim_text.proofs.reading.read.Given as goal

abbrev pub invariant-bytes : goal.invariant-bytes
invariant-bytes l = (l.index ≤ length l.bytes) × ArePaired l.draft.lines × (run start (take l.index l.bytes) ≡ Some (l.left, l.place, draft_in l.draft))

abbrev pub decreases-bytes : goal.decreases-bytes
decreases-bytes l = length l.bytes - l.index
