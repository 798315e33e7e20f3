-- The grid as text: a line of numbers, a line for each letter, and a line that shows the loop, in blocks of states.
use Rattle.std.specs.Prelude.{ℕ, zero, suc, ◌+◌, ◌-◌, ◌/◌, ◌%◌, ◌==◌, nat_lt, max, min, Bool, true, false, if◌then◌else◌, List, [], ◌++◌, length, codes}
use Rattle.std.specs.Prelude.{replicate, Option, Some, None, slice_index_or}
use Rattle.std.specs.Fmt.{decimal}
use Rattle.std.specs.List.{flat_map}
use Rattle.trace_view.specs.declared.lines.Measures.{Measures}
use Rattle.trace_view.specs.Grid.{RowValue, GridValue}
use Rattle.trace_view.specs.Names.{shown, columns_of, widest}

-- f 0, f 1 and so on up to f (n - 1), one behind the other
abbrev pub below : ℕ → (ℕ → List ℕ) → List ℕ
below zero f = []
below (suc n) f = below n f ++ f n

-- f from, and so on up to f (to - 1)
abbrev pub between : ℕ → ℕ → (ℕ → List ℕ) → List ℕ
between from to f = below (to - from) (λ k. f (from + k))

abbrev pub spaces : ℕ → List ℕ
spaces n = replicate n 32

-- the names take as many columns as the widest; a number as many as the greatest has digits. A state takes a column more than its number,
-- and a block has as many states as fit beside the names, but one at least
abbrev pub measured : GridValue → ℕ → Measures
measured g width =
    record {
      names = widest g.rows;
      numbers = length (decimal (g.states - 1));
      block = max 1 ((width - widest g.rows) / (length (decimal (g.states - 1)) + 1));
    }

-- what stands before a state: a bar where the loop begins with it, and else a space
abbrev pub before : Option ℕ → ℕ → List ℕ
before None i = codes " "
before (Some start) i = if i == start then codes "|" else codes " "

-- a state's column of a line, with its text at the right
abbrev pub column : GridValue → Measures → ℕ → List ℕ → List ℕ
column g m i text = before g.loop_at i ++ spaces (m.numbers - length text) ++ text

-- the number of a state
abbrev pub number : GridValue → Measures → ℕ → List ℕ
number g m i = column g m i (decimal i)

-- a filled cell and an empty one
abbrev pub mark : Bool → List ℕ
mark true = codes "#"
mark false = codes "."

-- the cell of a row at a state
abbrev pub cell : GridValue → Measures → RowValue → ℕ → List ℕ
cell g m row i = column g m i (mark (slice_index_or row.cells i false))

-- under a state before the loop there is nothing; a line begins at the loop's first state, and an arrow points back along it from under the last
abbrev pub under : GridValue → Measures → ℕ → ℕ → List ℕ
under g m start i =
    if nat_lt i start then codes " " ++ spaces m.numbers
    else ((if i == start then codes "^" else codes "-") ++ replicate (m.numbers - 1) 45 ++ (if i + 1 == g.states then codes "<" else codes "-"))

-- a line: what stands at the left, what stands at each state from `from` on up to the one before `to`, and a newline
abbrev pub line : List ℕ → (ℕ → List ℕ) → ℕ → ℕ → List ℕ
line label at from to = label ++ between from to at ++ codes "\n"

-- a name, and spaces up to the width of the names
abbrev pub label : Measures → RowValue → List ℕ
label m row = shown row.name ++ spaces (m.names - columns_of row.name)

abbrev pub row_line : GridValue → Measures → ℕ → ℕ → RowValue → List ℕ
row_line g m from to row = line (label m row) (cell g m row) from to

-- the loop is shown from the block on in which it begins
abbrev pub loop_line : GridValue → Measures → Option ℕ → ℕ → ℕ → List ℕ
loop_line g m None from to = []
loop_line g m (Some start) from to = if nat_lt start to then line (spaces m.names) (under g m start) from to else []

-- the lines of the states from `from` to the one before `to`, behind an empty line where they are not the first
abbrev pub block : GridValue → Measures → ℕ → ℕ → List ℕ
block g m from to =
    (if from == 0 then [] else codes "\n")
    ++ line (spaces m.names) (number g m) from to
    ++ flat_map (row_line g m from to) g.rows
    ++ loop_line g m g.loop_at from to

-- a block begins at each multiple of the number of states that a block has
abbrev pub block_at : GridValue → Measures → ℕ → List ℕ
block_at g m i = if i % m.block == 0 then block g m i (min (i + m.block) g.states) else []

-- the text at a width
abbrev pub text : GridValue → ℕ → List ℕ
text g width = below g.states (block_at g (measured g width))
