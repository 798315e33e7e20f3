use Rattle.log_trim.specs.Kept.{AreKept}
use Rattle.log_trim.specs.Marking.{marked}
use Rattle.log_trim.proofs.trimming.keep_lines.Given as goal

abbrev pub invariant-lines : goal.invariant-lines
invariant-lines l = AreKept (marked l.flags.items) l.log l.index l.kept.lines l.kept.hints l.kept.table.items
