-- The list of a step: what holds between a state of a trace and the next one, and the numbers of its letters. Its clauses are some of the
-- clause list's, of steps 0 and 1. The one by which state 1 is there only where state 0 is has to be left out: here the letter of state 0 says
-- that it is a first one, so a next state would come behind first ones alone, and all claims would be about these. A step may begin anywhere.
use Rattle.std.specs.Prelude.{ℕ, zero, suc, ◌+◌, ◌*◌, true, false, List, ◌++◌, length, map}
use Rattle.ltl_syntax.specs.declared.node.Kind.TheVariants as Kinds
use Rattle.ltl_syntax.specs.Formula.{Formula}
use Rattle.cnf_base.specs.declared.literal.Literal.{Literal as Signed}
use Rattle.ltl_closure.specs.Closure.{closure}
use Rattle.enc_layout.specs.Letters.{Meaning, Here, Accepted, EntryAt}
use Rattle.enc_layout.specs.Clauses.{Literal, Plus, Minus, Clause, gates_part, links_part, acceptance_part}

-- the letters of a step beside those of the entries: there is a next state, the state is a first one, the state is a last one
abbrev pub after : Meaning
after = Here 1

abbrev pub first : Meaning
first = Here 0

abbrev pub last : Meaning
last = Accepted 0

-- the gates of both states, the links between them, what a first state has, and what a last one has
abbrev pub step_clauses : Formula → List Clause
step_clauses f = gates_part f 0 ++ (gates_part f 1 ++ (links_part f 1 ++ (links_part f 0 ++ acceptance_part f Kinds.Finite 0)))

-- how many entries there are
abbrev pub width : Formula → ℕ
width f = length (closure f)

-- the number of a letter that the list has, where there are w entries: the entries at the state, those at the next one, and the three others
abbrev pub number_of : ℕ → Meaning → ℕ
number_of w (EntryAt zero t) = t
number_of w (EntryAt (suc i) t) = w + t
number_of w (Here (suc i)) = 2 * w + 1
number_of w (Here zero) = 2 * w + 2
number_of w (Accepted i) = 2 * w + 3
number_of w p = 0

-- the greatest number of a letter
abbrev pub greatest : Formula → ℕ
greatest f = 2 * width f + 3

-- a literal by the number of its letter
abbrev pub signed : Formula → Literal → Signed
signed f (Plus p) = record { letter = record { 0 = number_of (width f) p }; negated = false }
signed f (Minus p) = record { letter = record { 0 = number_of (width f) p }; negated = true }

-- the list of a step
abbrev pub step_list : Formula → List (List Signed)
step_list f = map (map (signed f)) (step_clauses f)
