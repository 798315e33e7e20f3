-- The states of a run that have one carry.
use Rattle.std.specs.Prelude.{◌≡◌, ℕ, ◌<◌, ◌≤◌, Bool, List, [], ◌∷◌, Contains}
use Rattle.ltl_syntax.specs.Formula.{Formula}
use Rattle.ltl_closure.specs.Run.{States, carry}

-- each number is below those after it
abbrev pub IsAscending : List ℕ → Type 0
IsAscending [] = Unit {0}
IsAscending (x ∷ xs) = ((y : ℕ) → Contains xs y → x < y) × IsAscending xs

-- states up to k, each named once, that have this carry
pub record HaveCarry (f : Formula) (r : States) (k : ℕ) (c : List Bool) (states : List ℕ) : Type 0 where
  pub ascending : IsAscending states
  pub within : (i : ℕ) → Contains states i → i ≤ k
  pub one : (i : ℕ) → Contains states i → carry f (r i) ≡ c
