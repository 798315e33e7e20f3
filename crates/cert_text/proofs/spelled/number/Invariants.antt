use Rattle.std.proofs.Common.{◌-◌, length}
use Rattle.cert_text.proofs.Slices.{HasPassed}
use Rattle.cert_text.proofs.spelled.number.Given as goal

abbrev pub invariant-loop-len : goal.invariant-loop-len
invariant-loop-len l = HasPassed l.digits l.value l.len

abbrev pub decreases-loop-len : goal.decreases-loop-len
decreases-loop-len l = length l.digits - l.len
