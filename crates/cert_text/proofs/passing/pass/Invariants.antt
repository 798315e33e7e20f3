use Rattle.std.proofs.Common.{◌≡◌, ◌-◌, ◌≤◌, Some, length, take}
use Rattle.cert_text.specs.Passes.{small_run}
use Rattle.cert_text.proofs.passing.pass.Given as goal

abbrev pub invariant-bytes : goal.invariant-bytes
invariant-bytes l = (l.index ≤ length l.bytes) × (small_run l.first l.fn.from (take l.index l.bytes) ≡ Some (l.left, l.place))

abbrev pub decreases-bytes : goal.decreases-bytes
decreases-bytes l = length l.bytes - l.index
