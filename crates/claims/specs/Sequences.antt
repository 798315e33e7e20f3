-- Sequences of states in which each may come right before the next, wherever they begin; and the assignment that a state and the next one give to
-- the letters of a step.
use Rattle.std.specs.Prelude.{◌≡◌, ℕ, zero, suc, ◌+◌, ◌-◌, ◌*◌, ◌<◌, ◌≤◌, nat_le, nat_lt, Bool, true, false, IsTrue, IsFalse, if◌then◌else◌, slice_index_or}
use Rattle.std.specs.Prelude.{Contains}
use Rattle.ltl_syntax.specs.Formula.{Formula}
use Rattle.ltl_closure.specs.Norm.{Norm, NConst, NNext, NYesterday, NWeakYesterday, pos_of}
use Rattle.ltl_closure.specs.Closure.{closure, nexts, yesterdays, eventualities, argument}
use Rattle.ltl_closure.specs.Run.{RunState, States, val, is_pending, is_fulfilled}
use Rattle.enc_layout.specs.Clauses.{letter_of}
use Rattle.claims.specs.Between.{after, first, last, width, number_of}

-- a state that may be the first of a run
pub record IsFirst (f : Formula) (s : RunState) : Type 0 where
  pub root : IsTrue (val s (pos_of f))
  pub yesterday : (a : Norm) → Contains (closure f) (NYesterday a) → IsFalse (s (NYesterday a))
  pub weak_yesterday : (a : Norm) → Contains (closure f) (NWeakYesterday a) → IsTrue (s (NWeakYesterday a))

-- a state that may come right before another
pub record AreLinked (f : Formula) (s u : RunState) : Type 0 where
  pub next : (e : Norm) → Contains (nexts f) e → s e ≡ val u (argument e)
  pub before : (e : Norm) → Contains (yesterdays f) e → u e ≡ val s (argument e)

-- a state that may be the last of a finite trace
abbrev pub IsLast : Formula → RunState → Type 0
IsLast f s = (a : Norm) → Contains (closure f) (NNext a) → IsFalse (s (NNext a))

-- the state meets the eventuality: it isn't pending there, or it is fulfilled
abbrev pub IsMet : RunState → Norm → Type 0
IsMet s e = IsTrue (is_pending s e) → IsTrue (is_fulfilled s e)

-- states for ever, in which each eventuality is met again and again
pub record AreEndless (f : Formula) (u : States) : Type 0 where
  pub linked : (i : ℕ) → AreLinked f (u i) (u (suc i))
  pub met : (e : Norm) → Contains (eventualities f) e → (i : ℕ) → (j : ℕ) × (i < j) × IsMet (u j) e

-- states 0 to k, where k is a last one
pub record AreEnding (f : Formula) (k : ℕ) (u : States) : Type 0 where
  pub linked : (i : ℕ) → i < k → AreLinked f (u i) (u (suc i))
  pub last : IsLast f (u k)

-- where the states of a run go on from k to l + 1: which of them comes at i
abbrev pub place_at : ℕ → ℕ → ℕ → ℕ
place_at l k zero = zero
place_at l k (suc i) = if nat_lt (place_at l k i) k then suc (place_at l k i) else suc l

-- the states of the run for ever
abbrev pub unrolled : States → ℕ → ℕ → States
unrolled r l k i = r (place_at l k i)

-- the value of the entry of a number
abbrev pub value_at : Formula → RunState → ℕ → Bool
value_at f s t = val s (slice_index_or (closure f) (t - 1) (NConst false))

-- the values of the letters of a step: the entries at the state and at the next one, whether there is a next one, and whether the state is a
-- first or a last one
abbrev pub step_values : Formula → RunState → RunState → Bool → Bool → Bool → ℕ → Bool
step_values f s u has_next is_first is_last n =
    if nat_le n (width f) then value_at f s n
    else if nat_le n (2 * width f) then value_at f u (n - width f)
    else if nat_le n (2 * width f + 1) then has_next
    else if nat_le n (2 * width f + 2) then is_first
    else is_last

-- the state that the letters of an assignment give, at 0 the state of a step and at 1 the next one
abbrev pub state_in : Formula → (ℕ → Bool) → ℕ → RunState
state_in f v i e = v (number_of (width f) (letter_of f i e))

-- an assignment to the letters of a step shows a state and a next one: each entry has the value of its letter, and the three other letters are true
-- only where they may be
pub record ShowsStep (f : Formula) (v : ℕ → Bool) : Type 0 where
  pub values : (i : ℕ) → i ≤ 1 → (e : Norm) → Contains (closure f) e → v (number_of (width f) (letter_of f i e)) ≡ val (state_in f v i) e
  pub linked : v (number_of (width f) after) ≡ true → AreLinked f (state_in f v 0) (state_in f v 1)
  pub first : v (number_of (width f) first) ≡ true → IsFirst f (state_in f v 0)
  pub last : v (number_of (width f) last) ≡ true → IsLast f (state_in f v 0)
