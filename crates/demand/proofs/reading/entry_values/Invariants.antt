use Rattle.std.proofs.Common.{◌≡◌, take}
use Rattle.demand.specs.Reading.{values_at}
use Rattle.demand.proofs.reading.entry_values.Given as goal

abbrev pub invariant-loop-number : goal.invariant-loop-number
invariant-loop-number g l = l.found.items ≡ values_at l.layout (g.V.Values.values l.values) l.step (take l.number-index l.numbers)
