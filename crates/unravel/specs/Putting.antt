-- What a solver was given of the clause list, and what stays of it.
use Rattle.std.specs.Prelude.{◌≡◌, ℕ, ◌+◌, ◌<◌, ◌≤◌, ◌^◌, List, length, All, Contains}
use Rattle.ltl_syntax.specs.declared.node.Kind.{Kind}
use Rattle.ltl_syntax.specs.Formula.{Formula}
use Rattle.ltl_closure.specs.Entries.{ClosureValue}
use Rattle.cnf_base.specs.declared.literal.Literal.{Literal as Signed}
use Rattle.derivation.specs.Naming.{AreNamed}
use Rattle.enc_layout.specs.Letters.{letters_through}
use Rattle.enc_layout.specs.Clauses.{counts, clause_list}
use Rattle.clause_index.specs.declared.numbers.Numbers.{Numbers}
use Rattle.clause_index.specs.Indexed.{IndexedValue}
use Rattle.unravel.specs.declared.inputs.Inputs.{Inputs}

-- the list of a formula through a depth
abbrev pub up_to : Formula → Kind → ℕ → IndexedValue
up_to f kind k = record { formula = f; kind = kind; depth = k }

-- and that of a closure's formula
abbrev pub listed_of : ClosureValue → ℕ → IndexedValue
listed_of c k = up_to c.formula c.kind k

abbrev pub list_of : IndexedValue → List (List Signed)
list_of x = clause_list x.formula x.kind x.depth

-- a clause of the list has this number
abbrev pub IsNumberIn : IndexedValue → ℕ → Type 0
IsNumberIn x n = (1 ≤ n) × (n ≤ length (list_of x))

-- and clauses of it have these; there may be none
pub record AreNumbersIn (x : IndexedValue) (numbers : Numbers) : Type 0 where
  pub from_one : 1 ≤ numbers.first
  pub within : numbers.first + numbers.count ≤ length (list_of x) + 1
  pub small : numbers.first + numbers.count < 2 ^ 60

-- the inputs are clauses of the list under their numbers, and the letters of the list are known
pub record IsPartOf (x : IndexedValue) (i : Inputs) : Type 0 where
  pub named : AreNamed (list_of x) i.solver.log.inputs i.names.items
  pub letters : i.solver.letters ≡ letters_through x.kind (counts x.formula) x.depth

-- what was put in is there still
abbrev pub Keeps : Inputs → Inputs → Type 0
Keeps old new = All (Contains new.solver.log.inputs) old.solver.log.inputs

-- more clauses of the list were put in, or none
pub record HasMore (x : IndexedValue) (old new : Inputs) : Type 0 where
  pub part : IsPartOf x new
  pub kept : Keeps old new

-- a question was asked: all that was put in is as before, and the letters are
pub record IsAsked (old new : Inputs) : Type 0 where
  pub letters : new.solver.letters ≡ old.solver.letters
  pub inputs : new.solver.log.inputs ≡ old.solver.log.inputs
  pub names : new.names.items ≡ old.names.items
