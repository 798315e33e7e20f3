-- What a contract sees of the clause list through a depth, and what holds of the fields.
use Rattle.std.specs.Prelude.{◌≡◌, ℕ}
use Rattle.ltl_closure.specs.Entries.{ClosureValue}
use Rattle.clause_index.specs.Indexed.{IndexedValue}
use Rattle.unravel.specs.Putting.{listed_of}

-- the clauses are those of the closure's formula through the depth
abbrev pub IsListed : ClosureValue → ℕ → IndexedValue → Type 0
IsListed c depth x = x ≡ listed_of c depth
