-- The letters that inputs name.
use Rattle.std.specs.Prelude.{◌≡◌, ℕ, Bool, true, false, List, All, Contains, slice_index_or}
use Rattle.cnf_base.specs.declared.literal.Literal.{Literal}

-- each letter with a flag that is set is one of these
abbrev pub AreListed : List Bool → List ℕ → Type 0
AreListed flags letters = (x : ℕ) → slice_index_or flags x false ≡ true → Contains letters x

-- each letter of the clause is one of these
abbrev pub AreOf : List ℕ → List Literal → Type 0
AreOf letters clause = All (λ l. Contains letters l.letter.0) clause
