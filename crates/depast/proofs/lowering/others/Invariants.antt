use Rattle.std.proofs.Common.{take}
use Rattle.depast.specs.States.{AreOthers}
use Rattle.depast.proofs.lowering.others.Given as goal

abbrev pub invariant-loop-name : goal.invariant-loop-name
invariant-loop-name l = AreOthers l.new (take l.name-index l.name-items) l.others.items
