use Rattle.std.proofs.Common.{◌≤◌, length}
use Rattle.cert_text.proofs.joining.cut.Given as goal

abbrev pub invariant-pieces : goal.invariant-pieces
invariant-pieces l = l.from ≤ length l.bytes
