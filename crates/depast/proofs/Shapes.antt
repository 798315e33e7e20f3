-- A lifted or lowered trace is a trace of the same kind, with the same positions.
use Rattle.std.proofs.Common.{◌≡◌, ℕ, ◌<◌, ap, refl, arith, length}
use Rattle.ltl_word.specs.declared.trace.Trace.{Trace}
use Rattle.ltl_word.specs.declared.trace.Trace.TheVariants.{Infinite, Finite}
use Rattle.ltl_word.specs.Trace.{IsTrace, IsPosition}
use Rattle.ltl_word.specs.Claims.{Claim}
use Rattle.depast.specs.Lifting.{HasLiftedShape}

pub first_place : (t : Trace) → IsTrace t → IsPosition t 0
first_place (Infinite stem loop_part) good = tt
first_place (Finite states) good = good

-- the numbers below n
below : ℕ → Claim
below n i = i < n

module _ (h : ℕ) where
  pub shaped_trace : (t u : Trace) → HasLiftedShape h t u → IsTrace t → IsTrace u
  shaped_trace (Infinite stem loop_part) (Infinite stem' loop_part') s good = let e = s.1 in omega arith
  shaped_trace (Finite states) (Finite states') s good = let e : length states' ≡ length states = s in omega arith
  shaped_trace (Infinite stem loop_part) (Finite states') s good = absurd s
  shaped_trace (Finite states) (Infinite stem' loop_part') s good = absurd s

  pub same_places : (t u : Trace) → HasLiftedShape h t u → IsPosition u ≡ IsPosition t
  unfolding below
  same_places (Infinite stem loop_part) (Infinite stem' loop_part') s = refl
  same_places (Finite states) (Finite states') s = ap below s
  same_places (Infinite stem loop_part) (Finite states') s = absurd s
  same_places (Finite states) (Infinite stem' loop_part') s = absurd s
