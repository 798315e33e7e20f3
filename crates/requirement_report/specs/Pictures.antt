-- The picture of a trace, with the letters that are true in some state.
use Rattle.std.specs.Prelude.{ℕ, ◌+◌, ◌-◌, ◌%◌, ◌==◌, ◌&&◌, ◌||◌, nat_le, nat_lt, Bool, if◌then◌else◌, List, [], ◌∷◌, ◌++◌, map, length, codes, bytes_eq, true}
use Rattle.std.specs.Cmp.Lexicographic.{slice_cmp}
use Rattle.std.specs.Ordering.{nat_cmp}
use Rattle.std.specs.declared.cmp.Ordering.{Ordering}
use Rattle.std.specs.declared.cmp.Ordering.TheVariants.{Less, Equal, Greater}
use Rattle.std.specs.List.{list_any}
use Rattle.ltl_word.specs.declared.trace.Trace.{Trace}
use Rattle.ltl_word.specs.declared.trace.Trace.TheVariants.{Infinite, Finite}
use Rattle.ltl_word.specs.Trace.{Names}
use Rattle.trace_view.specs.Grid.{RowValue, GridValue, states_in, loop_in, cells_for}
use Rattle.trace_view.specs.Letters.{all_names}
use Rattle.trace_view.specs.Text as view
use Rattle.requirement_report.specs.Lines.{inner, indented}

-- the states that are shown
abbrev pub states_of : Trace → List Names
states_of (Infinite stem loop_part) = stem ++ loop_part
states_of (Finite states) = states

-- a name is among some
abbrev pub has : List ℕ → Names → Bool
has name state = list_any (bytes_eq name) state

-- a name before others, among which it may be the first, or behind the first of them
abbrev pub placed : Ordering → List ℕ → List ℕ → Names → Names → Names
placed Less name n ns later = name ∷ n ∷ ns
placed Equal name n ns later = n ∷ ns
placed Greater name n ns later = n ∷ later

-- names in ascending order, each once, with one more
abbrev pub with_name : List ℕ → Names → Names
with_name name [] = name ∷ []
with_name name (n ∷ ns) = placed (slice_cmp nat_cmp name n) name n ns (with_name name ns)

abbrev pub ascending : Names → Names
ascending [] = []
ascending (name ∷ names) = with_name name (ascending names)

-- the letters of a trace
abbrev pub letters_in : Trace → Names
letters_in t = ascending (all_names (states_of t))

-- each with its cells
abbrev pub row_of : Trace → List ℕ → RowValue
row_of t name = record { name = name; cells = map (has name) (states_of t) }

abbrev pub grid_of : Trace → Names → GridValue
grid_of t letters = record { rows = map (row_of t) letters; states = states_in t; loop_at = loop_in t }

-- the lines of a grid with some letters, and a line in their place where it would have too many cells
abbrev pub picture_with : Trace → Names → List ℕ
picture_with t letters =
    if nat_le (cells_for t letters) 16777216
    then indented true (view.text (grid_of t letters) 76)
    else inner (codes "limit cells 16777216")

abbrev pub picture : Trace → List ℕ
picture t = picture_with t (letters_in t)

-- ---- a picture with marks

-- the column in which a position stands
abbrev pub looped_column : ℕ → ℕ → ℕ → ℕ
looped_column stem loop_part p = if nat_lt p stem || loop_part == 0 then p else stem + (p - stem) % loop_part

abbrev pub column : Trace → ℕ → ℕ
column (Infinite stem loop_part) p = looped_column (length stem) (length loop_part) p
column (Finite states) p = p

-- a column is that of the state at place k of a part that begins in the column `from`
abbrev pub is_column : ℕ → ℕ → ℕ → Bool
is_column from k c = nat_le from c && c - from == k

abbrev pub is_marked : List ℕ → ℕ → ℕ → Bool
is_marked columns from k = list_any (is_column from k) columns

-- a mark is a letter of its own
abbrev pub mark : List ℕ
mark = codes "!"

abbrev pub mark_if : Bool → Names
mark_if wanted = if wanted then mark ∷ [] else []

abbrev pub with_mark : Bool → Names → Names
with_mark wanted state = ascending (state ++ mark_if wanted)

abbrev pub marked_states : List ℕ → ℕ → ℕ → List Names → List Names
marked_states columns from k [] = []
marked_states columns from k (state ∷ states) = with_mark (is_marked columns from k) state ∷ marked_states columns from (k + 1) states

-- the trace in which that letter is true in the states of these columns
abbrev pub marked : List ℕ → Trace → Trace
marked columns (Infinite stem loop_part) = Infinite (marked_states columns 0 0 stem) (marked_states columns (length stem) 0 loop_part)
marked columns (Finite states) = Finite (marked_states columns 0 0 states)

-- the picture with a last row for the marks of some positions
abbrev pub marked_picture : Trace → List ℕ → List ℕ
marked_picture t positions = picture_with (marked (map (column t) positions) t) (letters_in t ++ mark ∷ [])
