use Rattle.std.proofs.Common.{◌-◌, length}
use Rattle.log_checker.proofs.Entries.{IsLeft}
use Rattle.log_checker.proofs.kept.live_place.Given as goal

abbrev pub invariant-entries : goal.invariant-entries
invariant-entries l = IsLeft l.entries.items l.place l.index l.left

abbrev pub decreases-entries : goal.decreases-entries
decreases-entries l = length l.entries.items - l.index
