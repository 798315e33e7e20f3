-- What to write where a formula is written as other tools have it.
use Rattle.std.specs.Prelude.{ℕ, ◌==◌, ◌||◌, ◌&&◌, nat_le, Bool, true, false, if◌then◌else◌, List, [], ◌∷◌, ◌++◌, length, codes, bytes_eq}
use Rattle.std.specs.List.{starts_with, flat_map, list_all}
use Rattle.requirement_report.specs.Lines.{inner}

-- the text begins with these bytes
abbrev pub begins : List ℕ → List ℕ → Bool
begins text sign = starts_with (λ a b. a == b) text sign

-- the first, and where that is empty the second
abbrev pub or_else : List ℕ → List ℕ → List ℕ
or_else [] second = second
or_else (b ∷ bs) second = b ∷ bs

-- a sign of another tool at the front, and what it is here. Nothing says that there is none, here and below
abbrev pub sign_hint : List ℕ → List ℕ
sign_hint text =
    if begins text (codes "[]") then codes "G in place of []"
    else (if begins text (codes "<>") then codes "F in place of <>"
    else (if begins text (codes "==") then codes "<-> in place of =="
    else (if begins text (codes "=") then codes "<-> in place of ="
    else (if begins text (codes "^") then codes "!(p <-> q) in place of p ^ q"
    else (if begins text (codes "/\\") then codes "& in place of /\\"
    else (if begins text (codes "\\/") then codes "| in place of \\/"
    else []))))))

-- ASCII letters, digits and _, and each byte of other characters
abbrev pub is_digit : ℕ → Bool
is_digit b = nat_le 48 b && nat_le b 57

abbrev pub is_letter : ℕ → Bool
is_letter b = (nat_le 65 b && nat_le b 90) || (nat_le 97 b && nat_le b 122)

abbrev pub is_in_word : ℕ → Bool
is_in_word b = is_digit b || (is_letter b || (b == 95 || nat_le 128 b))

abbrev pub is_white : ℕ → Bool
is_white b = b == 32 || (b == 9 || (b == 10 || b == 13))

-- the word at the front
abbrev pub first_word : List ℕ → List ℕ
first_word [] = []
first_word (b ∷ bs) = if is_in_word b then (b ∷ first_word bs) else []

-- the word at the end, white space behind it aside: where this word stands there so far, and whether white space does behind it
abbrev pub word_with : Bool → List ℕ → ℕ → List ℕ
word_with true word b = b ∷ []
word_with false word b = word ++ b ∷ []

abbrev pub word_so_far : Bool → List ℕ → List ℕ → List ℕ
word_so_far ended word [] = word
word_so_far ended word (b ∷ bs) =
    if is_in_word b then word_so_far false (word_with ended word b) bs
    else (if is_white b then word_so_far true word bs else word_so_far true [] bs)

abbrev pub last_word : List ℕ → List ℕ
last_word text = word_so_far true [] text

-- the operators that may have numbers
abbrev pub has_numbers : List ℕ → Bool
has_numbers word =
    bytes_eq word (codes "X") || (bytes_eq word (codes "Y") ||
    (bytes_eq word (codes "F") || (bytes_eq word (codes "G") || (bytes_eq word (codes "O") || bytes_eq word (codes "H")))))

abbrev pub opens_numbers : List ℕ → Bool
opens_numbers text = begins text (codes "[") || begins text (codes "<")

abbrev pub number_hint : List ℕ → List ℕ → List ℕ
number_hint word behind =
    if has_numbers word && opens_numbers behind then codes "numbers from 0 to 255 without a blank, as in F[0,3] and X[3]" else []

-- what a word of another tool is here
abbrev pub future_word : List ℕ → List ℕ
future_word word =
    if bytes_eq word (codes "always") then codes "G"
    else (if bytes_eq word (codes "globally") then codes "G"
    else (if bytes_eq word (codes "eventually") then codes "F"
    else (if bytes_eq word (codes "finally") then codes "F"
    else (if bytes_eq word (codes "next") then codes "X"
    else (if bytes_eq word (codes "until") then codes "U"
    else (if bytes_eq word (codes "weakuntil") then codes "W"
    else (if bytes_eq word (codes "release") then codes "R"
    else (if bytes_eq word (codes "V") then codes "R"
    else []))))))))

abbrev pub other_word : List ℕ → List ℕ
other_word word =
    if bytes_eq word (codes "since") then codes "S"
    else (if bytes_eq word (codes "once") then codes "O"
    else (if bytes_eq word (codes "historically") then codes "H"
    else (if bytes_eq word (codes "yesterday") then codes "Y"
    else (if bytes_eq word (codes "and") then codes "&"
    else (if bytes_eq word (codes "or") then codes "|"
    else (if bytes_eq word (codes "not") then codes "!"
    else (if bytes_eq word (codes "implies") then codes "->"
    else (if bytes_eq word (codes "iff") then codes "<->"
    else []))))))))

-- operators without blanks between them, which are one letter here
abbrev pub is_operator : ℕ → Bool
is_operator b = b == 88 || (b == 70 || (b == 71 || (b == 89 || (b == 90 || (b == 79 || b == 72)))))

abbrev pub behind_blank : ℕ → List ℕ
behind_blank b = codes " " ++ b ∷ []

abbrev pub with_blanks : List ℕ → List ℕ
with_blanks [] = []
with_blanks (b ∷ bs) = b ∷ flat_map behind_blank bs

abbrev pub are_operators : List ℕ → Bool
are_operators word = nat_le 2 (length word) && list_all is_operator word

abbrev pub parted : List ℕ → List ℕ
parted word = if are_operators word then with_blanks word else []

abbrev pub in_place : List ℕ → List ℕ → List ℕ
in_place [] word = []
in_place (b ∷ bs) word = (b ∷ bs) ++ (codes " in place of " ++ word)

abbrev pub word_hint : List ℕ → List ℕ
word_hint word = in_place (or_else (future_word word) (or_else (other_word word) (parted word))) word

-- of what stands before a fault and behind it
abbrev pub hint : List ℕ → List ℕ → List ℕ
hint front back =
    or_else (sign_hint back) (or_else (number_hint (last_word front) back) (or_else (word_hint (first_word back)) (word_hint (last_word front))))

abbrev pub hint_line : List ℕ → List ℕ
hint_line [] = []
hint_line (b ∷ bs) = inner (codes "hint: " ++ (b ∷ bs))
