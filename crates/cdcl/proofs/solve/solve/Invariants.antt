use Rattle.cdcl_trail.proofs.Measure.{measure}
use Rattle.cdcl.proofs.Search.{IsSearch, places_of}
use Rattle.cdcl.proofs.solve.solve.Given as goal

abbrev pub invariant-search : goal.invariant-search
invariant-search l = IsSearch l.fn.state l.state l.assumptions

abbrev pub decreases-search : goal.decreases-search
decreases-search l = measure l.pace.left (places_of l.state) l.state.trail
