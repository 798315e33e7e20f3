-- How a name is shown, and how many columns that takes.
use Rattle.std.specs.Prelude.{ℕ, Bool, false, ◌&&◌, ◌||◌, ◌==◌, nat_le, nat_lt, if◌then◌else◌, List, [], ◌∷◌, map, max, chars, encode_utf8_all}
use Rattle.unicode_width.specs.Width.{str_width}
use Rattle.trace_view.specs.Grid.{RowValue}

-- a control character, or one that XML has not
abbrev pub is_unfit : ℕ → Bool
is_unfit c = nat_lt c 32 || ((nat_le 127 c && nat_le c 159) || (c == 65534 || c == 65535))

-- U+FFFD stands for such a character, and every other one for itself
abbrev pub shown_char : ℕ → ℕ
shown_char c = if is_unfit c then 65533 else c

abbrev pub shown : List ℕ → List ℕ
shown name = encode_utf8_all (map shown_char (chars name))

-- the columns that it takes in a terminal
abbrev pub columns_of : List ℕ → ℕ
columns_of name = str_width false (chars (shown name))

-- the greatest of the rows
abbrev pub widest : List RowValue → ℕ
widest [] = 0
widest (row ∷ rows) = max (columns_of row.name) (widest rows)
