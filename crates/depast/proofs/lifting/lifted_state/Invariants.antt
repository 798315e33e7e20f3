use Rattle.std.proofs.Common.{ℕ, List, ◌↔◌, ◌⊎◌, Contains}
use Rattle.ltl_word.specs.Trace.{state_at}
use Rattle.depast.specs.Sources.{IsShown}
use Rattle.depast.proofs.lifting.lifted_state.Given as goal

abbrev pub invariant-loop-number : goal.invariant-loop-number
invariant-loop-number l = (name : List ℕ) → Contains l.names.items name
    ↔ ((Contains (state_at l.trace l.position) name × (Contains l.meanings.new name → ⊥)) ⊎ IsShown l.meanings l.removed.names l.position l.number name)
