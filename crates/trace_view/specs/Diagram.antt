-- The grid as a timing diagram in SVG: a lane for each letter, which is high where the letter is true, the names at the left, the numbers of
-- the states on top, and the loop as a band with an arrow back to its first state.
use Rattle.std.specs.Prelude.{ℕ, ◌+◌, ◌-◌, ◌*◌, ◌==◌, Bool, true, false, List, [], ◌∷◌, ◌++◌, length, codes, Option, Some, None, if◌then◌else◌, slice_index_or}
use Rattle.std.specs.Fmt.{decimal}
use Rattle.std.specs.List.{flat_map}
use Rattle.trace_view.specs.Grid.{RowValue, GridValue}
use Rattle.trace_view.specs.Names.{shown, widest}
use Rattle.trace_view.specs.Text.{below}

-- ---- where things stand, where `names` is the width of the names in columns

-- the left edge of a state
abbrev pub x_of : ℕ → ℕ → ℕ
x_of names i = 24 + 9 * names + 40 * i

-- the levels of a lane, counted from 0, where its letter is true and where it is false
abbrev pub level : ℕ → Bool → ℕ
level lane true = 48 + 36 * lane
level lane false = 68 + 36 * lane

-- below the lanes
abbrev pub bottom : ℕ → ℕ
bottom lanes = 44 + 36 * lanes

-- ---- the parts

-- some words and a number, in decimal
abbrev pub worded : List ℕ → ℕ → List ℕ
worded words n = words ++ decimal n

-- a byte of a name: what XML reads as markup is written as its entity
abbrev pub escaped_byte : ℕ → List ℕ
escaped_byte byte =
    if byte == 38 then codes "&amp;"
    else if byte == 60 then codes "&lt;"
    else if byte == 62 then codes "&gt;"
    else (byte ∷ [])

abbrev pub escaped : List ℕ → List ℕ
escaped text = flat_map escaped_byte text

-- colours for light and for dark screens
abbrev pub style : List ℕ
style =
    codes "<style type='text/css'>\n.paper{fill:#ffffff}\n.loop{fill:#0969da;fill-opacity:0.12}\n.edge{fill:none;stroke:#8c959f;stroke-opacity:0.4}\n"
    ++ codes ".lane{fill:#0969da;fill-opacity:0.2;stroke:#0969da;stroke-width:2}\n.back{fill:none;stroke:#bc4c00;stroke-width:2}\n.head{fill:#bc4c00}\n"
    ++ codes "text{fill:#1f2328;font-family:'DejaVu Sans Mono',Consolas,monospace}\n.name{font-size:15px}\n.number{font-size:12px;text-anchor:middle}\n"
    ++ codes "@media (prefers-color-scheme:dark){\n.paper{fill:#0d1117}\n.loop{fill:#58a6ff}\n.lane{fill:#58a6ff;stroke:#58a6ff}\n.back{stroke:#f0883e}\n.head{fill:#f0883e}\ntext{fill:#e6edf3}\n}\n</style>\n"

-- the head, for a picture so wide and so high
abbrev pub opening : ℕ → ℕ → List ℕ
opening width height =
    worded (codes "<?xml version='1.0' encoding='UTF-8'?>\n<svg xmlns='http://www.w3.org/2000/svg' version='1.1' width='") width
    ++ worded (codes "' height='") height
    ++ worded (codes "' viewBox='0 0 ") width
    ++ worded (codes " ") height
    ++ codes "'>\n<title>A trace</title>\n"
    ++ style

-- a sheet behind all
abbrev pub sheet : ℕ → ℕ → List ℕ
sheet width height = worded (codes "<rect class='paper' width='") width ++ worded (codes "' height='") height ++ codes "'/>\n"

-- the loop's band, from its first state to the last
abbrev pub band : ℕ → ℕ → ℕ → ℕ → List ℕ
band names lanes states start =
    worded (codes "<rect class='loop' x='") (x_of names start)
    ++ worded (codes "' y='36' width='") (40 * (states - start))
    ++ worded (codes "' height='") (8 + 36 * lanes)
    ++ codes "'/>\n"

-- a line at the left edge of a state
abbrev pub edge : ℕ → ℕ → ℕ → List ℕ
edge names lanes i = worded (codes "M") (x_of names i) ++ worded (codes " 36V") (bottom lanes)

-- such a line for each state, and one behind the last
abbrev pub edges : ℕ → ℕ → ℕ → List ℕ
edges names lanes states = codes "<path class='edge' d='" ++ below states (edge names lanes) ++ edge names lanes states ++ codes "'/>\n"

-- the number of a state, over its middle
abbrev pub numeral : ℕ → ℕ → List ℕ
numeral names i = worded (codes "<text class='number' x='") (x_of names i + 20) ++ worded (codes "' y='30'>") i ++ codes "</text>\n"

-- a lane goes to the level of a state and along it
abbrev pub stroke : ℕ → ℕ → RowValue → ℕ → List ℕ
stroke names lane row i = worded (codes "V") (level lane (slice_index_or row.cells i false)) ++ worded (codes "H") (x_of names (i + 1))

-- the lane of a row: it begins and ends low
abbrev pub wave : ℕ → ℕ → ℕ → RowValue → List ℕ
wave names states lane row =
    worded (codes "<path class='lane' d='M") (x_of names 0)
    ++ worded (codes " ") (level lane false)
    ++ below states (stroke names lane row)
    ++ worded (codes "V") (level lane false)
    ++ codes "'/>\n"

abbrev pub title : ℕ → RowValue → List ℕ
title lane row = worded (codes "<text class='name' x='12' y='") (63 + 36 * lane) ++ codes "'>" ++ escaped (shown row.name) ++ codes "</text>\n"

-- the name and the lane of each row, where the first of these rows has a number
abbrev pub lanes_from : ℕ → ℕ → ℕ → List RowValue → List ℕ
lanes_from names states lane [] = []
lanes_from names states lane (row ∷ rows) = title lane row ++ wave names states lane row ++ lanes_from names states (lane + 1) rows

-- the arrow from the last state back to the first of the loop
abbrev pub arrow : ℕ → ℕ → ℕ → ℕ → List ℕ
arrow names lanes states start =
    worded (codes "<path class='back' d='M") (x_of names (states - 1) + 28)
    ++ worded (codes " ") (bottom lanes)
    ++ worded (codes "V") (bottom lanes + 20)
    ++ worded (codes "H") (x_of names start + 12)
    ++ worded (codes "V") (bottom lanes + 4)
    ++ codes "'/>\n"

-- and its head
abbrev pub head : ℕ → ℕ → ℕ → List ℕ
head names lanes start =
    worded (codes "<path class='head' d='M") (x_of names start + 12)
    ++ worded (codes " ") (bottom lanes)
    ++ codes "l5 9h-10Z'/>\n"

-- the band where there is a loop, and the arrow there
abbrev pub band_of : ℕ → ℕ → ℕ → Option ℕ → List ℕ
band_of names lanes states None = []
band_of names lanes states (Some start) = band names lanes states start

abbrev pub arrow_of : ℕ → ℕ → ℕ → Option ℕ → List ℕ
arrow_of names lanes states None = []
arrow_of names lanes states (Some start) = arrow names lanes states start ++ head names lanes start

-- the whole picture of some lanes and states, with names of a width
abbrev pub picture : ℕ → ℕ → GridValue → List ℕ
picture names lanes g =
    opening (x_of names g.states + 16) (bottom lanes + 36)
    ++ sheet (x_of names g.states + 16) (bottom lanes + 36)
    ++ band_of names lanes g.states g.loop_at
    ++ edges names lanes g.states
    ++ below g.states (numeral names)
    ++ lanes_from names g.states 0 g.rows
    ++ arrow_of names lanes g.states g.loop_at
    ++ codes "</svg>\n"

abbrev pub svg : GridValue → List ℕ
svg g = picture (widest g.rows) (length g.rows) g
