-- Signs that are written at letters.
use Rattle.std.specs.Prelude.{◌≡◌, Bool, false, List, slice_index_or}
use Rattle.cnf_base.specs.declared.literal.Literal.{Literal}

-- the sign that is written at the letter of the literal is its own
abbrev pub HasSign : List Bool → Literal → Type 0
HasSign signs l = slice_index_or signs l.letter.0 false ≡ l.negated
