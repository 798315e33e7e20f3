-- Where a fault of a formula is: its line, and a caret under the place.
use Rattle.std.specs.Prelude.{ℕ, ◌+◌, ◌==◌, ◌||◌, nat_lt, nat_le, Bool, if◌then◌else◌, List, [], ◌∷◌, ◌++◌, codes}
use Rattle.std.specs.List.{flat_map}
use Rattle.std.specs.Fmt.{decimal}
use Rattle.std.specs.Str.Lossy.{utf8_lossy}
use Rattle.requirement_report.specs.Flat.{plain}
use Rattle.requirement_report.specs.Lines.{inner, lines_in}

-- what stands behind the last newline, where this does so far
abbrev pub behind : List ℕ → ℕ → List ℕ
behind line b = if b == 10 then [] else (line ++ b ∷ [])

abbrev pub line_so_far : List ℕ → List ℕ → List ℕ
line_so_far line [] = line
line_so_far line (b ∷ bs) = line_so_far (behind line b) bs

abbrev pub last_line : List ℕ → List ℕ
last_line text = line_so_far [] text

-- what stands before the first newline
abbrev pub first_line : List ℕ → List ℕ
first_line [] = []
first_line (b ∷ bs) = if b == 10 then [] else (b ∷ first_line bs)

-- a character begins with this byte
abbrev pub begins_character : ℕ → Bool
begins_character b = nat_lt b 128 || nat_le 192 b

abbrev pub character_count : ℕ → ℕ
character_count b = if begins_character b then 1 else 0

abbrev pub characters : List ℕ → ℕ
characters [] = 0
characters (b ∷ bs) = character_count b + characters bs

abbrev pub blank_for : ℕ → List ℕ
blank_for b = if begins_character b then codes " " else []

-- the line and the column, from 1, in characters, of what stands behind this text
abbrev pub place_line : List ℕ → List ℕ
place_line front = inner (codes "line " ++ (decimal (lines_in front + 1) ++ (codes ", column " ++ decimal (characters (last_line front) + 1))))

-- the line: a blank for each tab, and U+FFFD for each other character that no line shows
abbrev pub shown_line : List ℕ → List ℕ
shown_line line = inner (plain (utf8_lossy line))

-- a caret behind as many characters
abbrev pub caret_line : List ℕ → List ℕ
caret_line before = inner (flat_map blank_for before ++ codes "^")

-- the lines of the place between these two parts of a text
abbrev pub pointing : List ℕ → List ℕ → List ℕ
pointing front back = place_line front ++ (shown_line (last_line front ++ first_line back) ++ caret_line (last_line front))
