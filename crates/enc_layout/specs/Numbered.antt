-- Entries whose numbers are known, as encoders read them, and lists that encoders made longer.
use Rattle.std.specs.Prelude.{◌≡◌, ℕ, List, ◌++◌, ⊤}
use Rattle.cnf_base.specs.declared.literal.Literal.{Literal}
use Rattle.ltl_closure.specs.declared.entry.Entry.{Entry}
use Rattle.ltl_closure.specs.declared.entry.Entry.TheVariants as Is
use Rattle.ltl_closure.specs.Entries.{IsNumber}

-- the entry's numbers are those of entries
abbrev pub IsInside : ℕ → Entry → Type 0
IsInside w Is.True = ⊤
IsInside w Is.False = ⊤
IsInside w (Is.Letter n) = ⊤
IsInside w (Is.Fresh n) = ⊤
IsInside w (Is.NotLetter p) = IsNumber w p
IsInside w (Is.And a b) = IsNumber w a × IsNumber w b
IsInside w (Is.Or a b) = IsNumber w a × IsNumber w b
IsInside w (Is.Until a b r) = IsNumber w a × (IsNumber w b × IsNumber w r)
IsInside w (Is.Since a b r) = IsNumber w a × (IsNumber w b × IsNumber w r)
IsInside w (Is.Release a b r) = IsNumber w a × (IsNumber w b × IsNumber w r)
IsInside w (Is.Trigger a b r) = IsNumber w a × (IsNumber w b × IsNumber w r)
IsInside w (Is.Next a weak) = IsNumber w a
IsInside w (Is.Yesterday a weak) = IsNumber w a

-- the new list has clauses behind the old one's
abbrev pub Extends : List (List Literal) → List (List Literal) → Type 0
Extends old new = (more : List (List Literal)) × (new ≡ old ++ more)
