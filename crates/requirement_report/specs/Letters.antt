-- The letters of a document, and the items that have them.
use Rattle.std.specs.Prelude.{ℕ, zero, suc, if◌then◌else◌, Bool, false, List, [], ◌∷◌, ◌++◌, map, length, slice_get, slice_index_or, string_bytes, codes}
use Rattle.std.specs.Prelude.{Option, Some, None}
use Rattle.std.specs.List.{flat_map}
use Rattle.ltl_syntax.specs.Formula.{Name, Fresh, Formula, Const, Letter, Unary, Binary}
use Rattle.ltl_word.specs.Trace.{Names}
use Rattle.requirement_document.specs.Values.{ItemValue, DocumentValue}
use Rattle.requirement_report.specs.declared.letters.Use.{Use}
use Rattle.requirement_report.specs.Flat.{flat}
use Rattle.requirement_report.specs.Lines.{head}
use Rattle.requirement_report.specs.Pictures.{has, ascending}
use Rattle.requirement_report.specs.Subjects.{name_of}

-- the letters of a formula, from left to right
abbrev pub letters_of : Formula → Names
letters_of (Const b) = []
letters_of (Letter (Name name)) = name ∷ []
letters_of (Letter (Fresh n)) = []
letters_of (Unary op a) = letters_of a
letters_of (Binary op a b) = letters_of a ++ letters_of b

abbrev pub item_letters : ItemValue → Names
item_letters i = letters_of i.formula

-- those of all items, each once and in ascending order
abbrev pub all_letters : DocumentValue → Names
all_letters d = ascending (flat_map item_letters d.items)

-- the numbers of the items that have a letter, in order
abbrev pub item_has : List ℕ → Option ItemValue → Bool
item_has letter None = false
item_has letter (Some i) = has letter (item_letters i)

abbrev pub user_at : DocumentValue → List ℕ → ℕ → List ℕ
user_at d letter n = if item_has letter (slice_get d.items n) then n ∷ [] else []

abbrev pub users_below : DocumentValue → List ℕ → ℕ → List ℕ
users_below d letter zero = []
users_below d letter (suc n) = users_below d letter n ++ user_at d letter n

abbrev pub users : DocumentValue → List ℕ → List ℕ
users d letter = users_below d letter (length d.items)

-- a letter with the items that have it
pub record UseValue : Type 0 where
  pub letter : List ℕ
  pub items : List ℕ

abbrev pub use_of : DocumentValue → List ℕ → UseValue
use_of d letter = record { letter = letter; items = users d letter }

-- all of them, by the letters in ascending order
abbrev pub uses_of : DocumentValue → List UseValue
uses_of d = map (use_of d) (all_letters d)

-- what it is, apart from how it is stored
abbrev pub use_in : Use → UseValue
use_in u = record { letter = string_bytes u.letter; items = u.items.items }

-- ---- their text

-- the names of items, joined
abbrev pub name_behind : DocumentValue → ℕ → List ℕ
name_behind d n = codes ", " ++ flat (name_of d n)

abbrev pub names_text : DocumentValue → List ℕ → List ℕ
names_text d [] = []
names_text d (n ∷ ns) = flat (name_of d n) ++ flat_map (name_behind d) ns

-- a line for each letter
abbrev pub use_line : DocumentValue → UseValue → List ℕ
use_line d u = head (flat u.letter) (names_text d u.items)

abbrev pub letters_text : DocumentValue → List ℕ
letters_text d = flat_map (use_line d) (uses_of d)

-- ---- for private clauses

-- the letters of an item, each once and in ascending order
abbrev pub set_of : ItemValue → Names
set_of i = ascending (item_letters i)

-- the same uses, read off such sets
abbrev pub user_among : List Names → List ℕ → ℕ → List ℕ
user_among sets letter n = if has letter (slice_index_or sets n []) then n ∷ [] else []

abbrev pub users_among : List Names → List ℕ → ℕ → List ℕ
users_among sets letter zero = []
users_among sets letter (suc n) = users_among sets letter n ++ user_among sets letter n

abbrev pub use_among : List Names → List ℕ → UseValue
use_among sets letter = record { letter = letter; items = users_among sets letter (length sets) }
