-- The lines of a report.
use Rattle.std.specs.Prelude.{ℕ, ◌+◌, ◌-◌, ◌==◌, Bool, true, false, if◌then◌else◌, List, [], ◌∷◌, ◌++◌, codes}
use Rattle.std.specs.Fmt.{decimal}

-- some words and a number, in decimal
abbrev pub worded : List ℕ → ℕ → List ℕ
worded words n = words ++ decimal n

-- how many of how many
abbrev pub of_all : ℕ → ℕ → List ℕ
of_all good all = decimal good ++ worded (codes " of ") all

-- a line behind four blanks, and behind eight
abbrev pub inner : List ℕ → List ℕ
inner text = codes "    " ++ (text ++ codes "\n")

abbrev pub deeper : List ℕ → List ℕ
deeper text = codes "        " ++ (text ++ codes "\n")

-- a line that is left out where it is empty
abbrev pub inner_if : List ℕ → List ℕ
inner_if [] = []
inner_if (b ∷ bs) = inner (b ∷ bs)

abbrev pub deeper_if : List ℕ → List ℕ
deeper_if [] = []
deeper_if (b ∷ bs) = deeper (b ∷ bs)

-- the head of a block
abbrev pub head : List ℕ → List ℕ → List ℕ
head word subject = word ++ (codes ": " ++ (subject ++ codes "\n"))

-- lines behind four blanks each but for the empty ones, where a line begins here or has begun
abbrev pub indented : Bool → List ℕ → List ℕ
indented begins [] = []
indented true (b ∷ bs) = if b == 10 then (codes "\n" ++ indented true bs) else (codes "    " ++ b ∷ indented false bs)
indented false (b ∷ bs) = b ∷ indented (b == 10) bs

-- the first lines of a text
abbrev pub lines_left : ℕ → ℕ → ℕ
lines_left n byte = if byte == 10 then n - 1 else n

abbrev pub first_lines : ℕ → List ℕ → List ℕ
first_lines n [] = []
first_lines n (b ∷ bs) = if n == 0 then [] else (b ∷ first_lines (lines_left n b) bs)

-- how many lines it has
abbrev pub newline_count : ℕ → ℕ
newline_count byte = if byte == 10 then 1 else 0

abbrev pub lines_in : List ℕ → ℕ
lines_in [] = 0
lines_in (b ∷ bs) = newline_count b + lines_in bs
