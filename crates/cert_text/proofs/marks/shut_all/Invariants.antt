use Rattle.std.proofs.Common.{length}
use Rattle.cert_text.proofs.Shutting.{IsShutUpTo}
use Rattle.cert_text.proofs.marks.shut_all.Given as goal

abbrev pub invariant-loop-number : goal.invariant-loop-number
invariant-loop-number l = IsShutUpTo l.fn.numbers l.numbers l.count l.fn.ends.items l.ends.items

abbrev pub decreases-loop-number : goal.decreases-loop-number
decreases-loop-number l = length l.numbers
