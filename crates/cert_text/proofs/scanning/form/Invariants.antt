use Rattle.std.proofs.Common.{◌-◌, ◌≤◌, length, take}
use Rattle.cert_text.proofs.Forming.{IsAt}
use Rattle.cert_text.proofs.scanning.form.Given as goal

abbrev pub invariant-bytes : goal.invariant-bytes
invariant-bytes l = (l.index ≤ length l.bytes) × IsAt (take l.index l.bytes) l.left l.place

abbrev pub decreases-bytes : goal.decreases-bytes
decreases-bytes l = length l.bytes - l.index
