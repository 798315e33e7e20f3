-- A trace is a stem and a loop that repeats for ever, or a list of states. A state is a set of names.
use Rattle.std.specs.Prelude.{ℕ, ◌-◌, ◌%◌, ◌<◌, List, [], length, slice_index_or, nat_lt, if◌then◌else◌, ⊤}
use Rattle.ltl_syntax.specs.declared.node.Kind.{Kind}
use Rattle.ltl_syntax.specs.declared.node.Kind.TheVariants as Kinds
use Rattle.ltl_word.specs.declared.trace.Trace.{Trace}
use Rattle.ltl_word.specs.declared.trace.Trace.TheVariants.{Infinite, Finite}

-- a state: the names that are true in it
abbrev pub Names : Type 0
Names = List (List ℕ)

-- the loop, or the list of states, is not empty
abbrev pub IsTrace : Trace → Type 0
IsTrace (Infinite stem loop_part) = 0 < length loop_part
IsTrace (Finite states) = 0 < length states

-- the kind of a trace
abbrev pub IsOfKind : Trace → Kind → Type 0
IsOfKind (Infinite stem loop_part) Kinds.Infinite = ⊤
IsOfKind (Infinite stem loop_part) Kinds.Finite = ⊥
IsOfKind (Finite states) Kinds.Infinite = ⊥
IsOfKind (Finite states) Kinds.Finite = ⊤

-- the positions of an infinite trace are all numbers from 0, those of a finite one the numbers below its length
abbrev pub IsPosition : Trace → ℕ → Type 0
IsPosition (Infinite stem loop_part) i = ⊤
IsPosition (Finite states) i = i < length states

-- the names that are true at a position
abbrev pub state_at : Trace → ℕ → Names
state_at (Infinite stem loop_part) i =
    if nat_lt i (length stem)
    then slice_index_or stem i []
    else slice_index_or loop_part ((i - length stem) % length loop_part) []
state_at (Finite states) i = slice_index_or states i []
