use Rattle.std.proofs.Common.{ℕ, List, ◌↔◌, Contains}
use Rattle.ltl_run.specs.Shown.{IsChosen}
use Rattle.ltl_run.proofs.showing.shown_state.Given as goal

abbrev pub invariant-loop-i : goal.invariant-loop-i
invariant-loop-i l = (name : List ℕ) → Contains l.chosen.items name ↔ IsChosen l.names l.state.letters.items l.i name
