use Rattle.unravel.proofs.Listing.{indexed_is}
use Rattle.unravel.proofs.listed.Listed.of.Goals as goal

pub invariant_of-result : goal.invariant_of-result
invariant_of-result c = indexed_is c.of.result c.args.closure.now c.args.depth c.of.ensures.formula c.of.ensures.kind c.of.ensures.depth
