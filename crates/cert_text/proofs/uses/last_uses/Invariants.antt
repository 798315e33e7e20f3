use Rattle.std.proofs.Common.{length}
use Rattle.cert_text.proofs.Noting.{AreNumbered, AreNoted}
use Rattle.cert_text.proofs.uses.last_uses.Given as goal

abbrev pub invariant-loop-index : goal.invariant-loop-index
invariant-loop-index l = AreNumbered l.index l.last.items

abbrev pub invariant-loop-index-2 : goal.invariant-loop-index-2
invariant-loop-index-2 l = AreNoted l.derivation.hints (length l.derivation.lines) l.index l.last.items
