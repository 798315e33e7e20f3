use Rattle.claim_reading.specs.Sizes.{AreSizes}
use Rattle.claim_reading.proofs.entry_sizes.sizes_of.Given as goal

abbrev pub invariant-entries : goal.invariant-entries
invariant-entries l = AreSizes l.closure.formula l.index l.sizes.items
