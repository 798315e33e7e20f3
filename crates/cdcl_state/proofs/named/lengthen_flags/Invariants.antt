use Rattle.std.proofs.Common.{◌≡◌, ℕ, ◌+◌, ◌-◌, true, length, get_or}
use mathlib.Core.Bool.{false}
use Rattle.cdcl_state.proofs.named.lengthen_flags.Given as goal

abbrev pub invariant-more : goal.invariant-more
invariant-more l = (x : ℕ) → get_or l.flags.items x false ≡ true → get_or l.initial.flags.items x false ≡ true

abbrev pub decreases-more : goal.decreases-more
decreases-more l = l.letter + 1 - length l.flags.items
