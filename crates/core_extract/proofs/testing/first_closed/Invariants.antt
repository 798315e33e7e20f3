use Rattle.std.proofs.Common.{◌≡◌, ℕ, ◌<◌, get_or}
use Rattle.core_extract.specs.declared.testing.Outcome.TheVariants as outcomes
use Rattle.core_extract.proofs.testing.first_closed.Given as goal

abbrev pub invariant-tests : goal.invariant-tests
invariant-tests l = (i : ℕ) → i < l.index → get_or l.found.items i outcomes.NoMemory ≡ outcomes.Open
