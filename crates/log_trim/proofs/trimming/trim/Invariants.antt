use Rattle.std.proofs.Common.{◌≡◌, map, take}
use Rattle.log_trim.specs.Kept.{new_number}
use Rattle.log_trim.specs.Marking.{marked}
use Rattle.log_trim.proofs.trimming.trim.Given as goal

abbrev pub invariant-targets : goal.invariant-targets
invariant-targets l = l.numbers.items ≡ map (new_number (marked l.flags.items) l.fn.log.lines) (take l.target-index l.targets)
