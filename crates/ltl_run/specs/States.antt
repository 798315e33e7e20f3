-- What the states of a run say of the entries of a closure.
use Rattle.std.specs.Prelude.{◌≡◌, ◌-◌, Bool, true, false, List, filter, length, Option, Some, None, slice_get, slice_index_or}
use Rattle.ltl_syntax.specs.Formula.{Formula}
use Rattle.ltl_closure.specs.Norm.{Norm, NLetter, NNext, NWeakNext, NYesterday, NWeakYesterday}
use Rattle.ltl_closure.specs.Closure.{closure, nexts, yesterdays}
use Rattle.ltl_closure.specs.Entries.{place_in}
use Rattle.ltl_closure.specs.Run.{States}
use Rattle.ltl_run.specs.declared.run_state.RunState.{RunState}

abbrev pub is_letter : Norm → Bool
is_letter (NLetter p) = true
is_letter e = false

-- the letters of the closure, in its order
abbrev pub letters : Formula → List Norm
letters f = filter is_letter (closure f)

-- a state has a value for each letter, next request and yesterday request of the closure
pub record FitsClosure (f : Formula) (s : RunState) : Type 0 where
  pub letters : length s.letters.items ≡ length (letters f)
  pub nexts : length s.nexts.items ≡ length (nexts f)
  pub yesterdays : length s.yesterdays.items ≡ length (yesterdays f)

-- the value of a member of the list, where the values stand in its order
abbrev pub value_among : List Norm → List Bool → Norm → Bool
value_among kept values e = slice_index_or values (place_in kept e - 1) false

-- the value that a state gives to an entry
abbrev pub value_in : Formula → RunState → Norm → Bool
value_in f s (NLetter p) = value_among (letters f) s.letters.items (NLetter p)
value_in f s (NNext a) = value_among (nexts f) s.nexts.items (NNext a)
value_in f s (NWeakNext a) = value_among (nexts f) s.nexts.items (NWeakNext a)
value_in f s (NYesterday a) = value_among (yesterdays f) s.yesterdays.items (NYesterday a)
value_in f s (NWeakYesterday a) = value_among (yesterdays f) s.yesterdays.items (NWeakYesterday a)
value_in f s e = false

-- no state gives the value false
abbrev pub value_if : Formula → Option RunState → Norm → Bool
value_if f (Some s) e = value_in f s e
value_if f None e = false

-- the run of these states
abbrev pub run_of : Formula → List RunState → States
run_of f states i = value_if f (slice_get states i)
