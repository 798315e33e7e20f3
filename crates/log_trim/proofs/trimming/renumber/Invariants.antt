use Rattle.std.proofs.Common.{◌≡◌, map, take}
use Rattle.clause_log.specs.LogValue.{hints_at}
use Rattle.log_trim.specs.Kept.{renumbered}
use Rattle.log_trim.specs.Marking.{marked}
use Rattle.log_trim.proofs.trimming.renumber.Given as goal

abbrev pub invariant-hints : goal.invariant-hints
invariant-hints l = l.new.items ≡ map (renumbered (marked l.flags.items) l.log.lines) (take l.place (hints_at l.log.hints l.line))
