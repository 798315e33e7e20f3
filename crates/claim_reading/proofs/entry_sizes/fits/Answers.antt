use Rattle.std.proofs.Common.{◌∙◌}
use Rattle.claims.specs.Between.{width}
use Rattle.claim_reading.proofs.Sizing.{sizes_low}
use Rattle.claim_reading.proofs.Counting.{counted}
use Rattle.claim_reading.proofs.entry_sizes.fits.Goals as goal

pub is_small-requires-clause-few : goal.is_small-requires-clause-few
is_small-requires-clause-few c = sizes_low c.args.closure.now.formula (width c.args.closure.now.formula) c.args.sizes.now.items c.requires.sizes

pub returns : goal.returns
returns c = c.is_small.ensures ∙ counted c.args.closure.now.formula c.args.sizes.now.items c.requires.sizes c.args.claim.now c.requires.known
