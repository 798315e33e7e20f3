use Rattle.std.proofs.Common.{◌≡◌, ◌↔◌, ℕ, ◌<◌, ◌+◌, true, Contains, length, get_or, take}
use mathlib.Core.Bool.{false}
use Rattle.cdcl_trail.specs.Trail.{literals_of}
use Rattle.cdcl_state.specs.StateValue.{positive}
use Rattle.cdcl_state.proofs.state.State.model.Given as goal

abbrev pub invariant-loop-place : goal.invariant-loop-place
invariant-loop-place l = record {
  size : length l.model.items ≡ l.self.letters + 1;
  told : (x : ℕ) → x < l.self.letters + 1 → (get_or l.model.items x false ≡ true) ↔ Contains (literals_of (take l.place l.self.trail)) (positive x);
}
