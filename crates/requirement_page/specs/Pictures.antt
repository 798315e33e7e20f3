-- The picture of a trace within the page.
use Rattle.std.specs.Prelude.{ℕ, ◌==◌, nat_le, Bool, true, false, if◌then◌else◌, List, [], ◌∷◌, ◌++◌, codes}
use Rattle.ltl_word.specs.declared.trace.Trace.{Trace}
use Rattle.trace_view.specs.Grid.{cells_for}
use Rattle.trace_view.specs.Diagram.{svg}
use Rattle.requirement_report.specs.Pictures.{letters_in, grid_of}
use Rattle.requirement_page.specs.Marks.{paragraph}

-- what is behind the first line of a text, where that has ended or not
abbrev pub later_lines : Bool → List ℕ → List ℕ
later_lines ended [] = []
later_lines true (b ∷ bs) = b ∷ later_lines true bs
later_lines false (b ∷ bs) = later_lines (b == 10) bs

-- a picture in SVG without its first line, which says that a file of XML begins
abbrev pub framed : List ℕ → List ℕ
framed drawing = codes "<div class=\"picture\">\n" ++ (later_lines false drawing ++ codes "</div>\n")

-- the timing diagram of the letters that are true in some state, and a line in its place where it would have too many cells
unfoldable pub picture : Trace → List ℕ
picture t = if nat_le (cells_for t (letters_in t)) 16777216 then framed (svg (grid_of t (letters_in t))) else paragraph (codes "limit cells 16777216")
