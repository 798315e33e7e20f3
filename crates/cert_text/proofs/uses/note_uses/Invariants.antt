use Rattle.std.proofs.Common.{take}
use Rattle.cert_text.specs.Writing.{IsNoted}
use Rattle.cert_text.proofs.uses.note_uses.Given as goal

abbrev pub invariant-loop-hint : goal.invariant-loop-hint
invariant-loop-hint l = IsNoted (take l.hint-index l.hints) l.line l.fn.last.items l.last.items
