-- A text on one line: white space becomes one blank, with none at both ends, and U+FFFD stands for what no line shows.
use Rattle.std.specs.Prelude.{ℕ, Bool, true, false, ◌||◌, ◌==◌, if◌then◌else◌, List, [], ◌∷◌, ◌++◌, map, chars, codes, encode_utf8_all}
use Rattle.trace_view.specs.Names.{shown_char}

-- tab, newline and carriage return
abbrev pub is_white : ℕ → Bool
is_white c = c == 9 || (c == 10 || c == 13)

-- such a character becomes a blank, and any other one is shown as in a picture
abbrev pub plain_char : ℕ → ℕ
plain_char c = if is_white c then 32 else shown_char c

abbrev pub plain : List ℕ → List ℕ
plain text = encode_utf8_all (map plain_char (chars text))

abbrev pub gap_text : Bool → List ℕ
gap_text true = codes " "
gap_text false = []

-- the bytes with one blank for each run of blanks between others, where something may stand before them, and blanks behind that
abbrev pub squeezed : Bool → Bool → List ℕ → List ℕ
squeezed started gap [] = []
squeezed started gap (b ∷ bs) = if b == 32 then squeezed started started bs else (gap_text gap ++ b ∷ squeezed true false bs)

-- the text on one line
abbrev pub flat : List ℕ → List ℕ
flat text = squeezed false false (plain text)
