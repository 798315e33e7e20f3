use Rattle.std.proofs.Common.{◌≡◌, ◌++◌, drop, false}
use Rattle.requirement_report.specs.Flat.{squeezed}
use Rattle.requirement_report.proofs.flat.put_squeezed.Given as goal

abbrev pub invariant-loop-byte : goal.invariant-loop-byte
invariant-loop-byte l =
    l.out.items ++ squeezed l.before.started l.before.gap (drop l.byte-index l.bytes)
    ≡ l.fn.out.items ++ squeezed false false l.bytes
