use Rattle.std.proofs.Common.{◌≡◌, ◌+◌, drop}
use Rattle.depast.specs.Names.{leading}
use Rattle.depast.proofs.counts.leading.Given as goal

abbrev pub invariant-loop-byte : goal.invariant-loop-byte
invariant-loop-byte l = (l.count ≡ l.byte-index) × (l.count + leading (drop l.byte-index l.name) ≡ leading l.name)
