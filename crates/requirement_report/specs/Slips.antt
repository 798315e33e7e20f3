-- Letters that may be slips: they stand in one item alone, or are nearly another one.
use Rattle.std.specs.Prelude.{ℕ, ◌+◌, ◌==◌, ◌&&◌, ◌||◌, not, nat_le, Bool, true, false, if◌then◌else◌, List, [], ◌∷◌, length, bytes_eq, chars, string_bytes}
use Rattle.std.specs.Prelude.{Option, Some, None, option_map}
use Rattle.std.specs.List.{flat_map}
use Rattle.strsim.specs.Edits.{osa_table}
use Rattle.requirement_document.specs.Values.{DocumentValue}
use Rattle.requirement_report.specs.declared.slips.Slip.{Slip}
use Rattle.requirement_report.specs.Letters.{UseValue, uses_of}

-- ---- near letters

-- a letter without `_`, and with small letters for the capitals of ASCII
abbrev pub folded_byte : ℕ → List ℕ
folded_byte b = if b == 95 then [] else (if nat_le 65 b && nat_le b 90 then (b + 32) ∷ [] else b ∷ [])

abbrev pub folded : List ℕ → List ℕ
folded letter = flat_map folded_byte letter

-- the changes of one character, or of two that change places, that it takes to make one text of the other
abbrev pub changes : List ℕ → List ℕ → ℕ
changes a b = (osa_table (chars a) (chars b)).last_row (length (chars b))

abbrev pub is_digit : ℕ → Bool
is_digit c = nat_le 48 c && nat_le c 57

abbrev pub are_last : List ℕ → List ℕ → Bool
are_last [] [] = true
are_last xs ys = false

-- from the first characters on that differ: neither is a digit, they do not begin the letter nor a part of it behind `_`, and they are not the last ones
-- of both. So `floor_1` and `floor_2`, `sendA` and `sendB` are meant to differ
abbrev pub differ_inside : Bool → List ℕ → List ℕ → Bool
differ_inside inside [] ys = false
differ_inside inside (x ∷ xs) [] = false
differ_inside inside (x ∷ xs) (y ∷ ys) =
    if x == y then differ_inside (not (x == 95)) xs ys
    else (inside && ((not (is_digit x) && not (is_digit y)) && not (are_last xs ys)))

-- two letters of four characters or more that are one change apart
abbrev pub is_mistyped : List ℕ → List ℕ → Bool
is_mistyped a b = (nat_le 4 (length (chars a)) && nat_le 4 (length (chars b))) && (differ_inside false (chars a) (chars b) && changes a b == 1)

-- nearly the same: but for capitals and `_`, or but for one change
abbrev pub is_near : List ℕ → List ℕ → Bool
is_near a b = not (bytes_eq a b) && (bytes_eq (folded a) (folded b) || is_mistyped a b)

-- ---- slips

pub record SlipValue : Type 0 where
  pub letter : List ℕ
  pub items : List ℕ
  pub nearly : Option (List ℕ)

-- the first letter that another one is nearly, and that stands in as many items or more
abbrev pub is_meant_by : UseValue → UseValue → Bool
is_meant_by u other = nat_le (length u.items) (length other.items) && is_near u.letter other.letter

abbrev pub nearest : List UseValue → UseValue → Option (List ℕ)
nearest [] u = None
nearest (other ∷ others) u = if is_meant_by u other then Some other.letter else nearest others u

abbrev pub is_slip : UseValue → Option (List ℕ) → Bool
is_slip u (Some other) = true
is_slip u None = length u.items == 1

abbrev pub slip_of : UseValue → Option (List ℕ) → List SlipValue
slip_of u nearly = if is_slip u nearly then record { letter = u.letter; items = u.items; nearly = nearly } ∷ [] else []

-- those among some letters with their items, in their order
abbrev pub all_slips : List UseValue → List SlipValue
all_slips uses = flat_map (λ u. slip_of u (nearest uses u)) uses

-- each letter is held against each, so none is where there are very many
abbrev pub slips_among : List UseValue → List SlipValue
slips_among uses = if nat_le (length uses) 16384 then all_slips uses else []

abbrev pub slips_of : DocumentValue → List SlipValue
slips_of d = slips_among (uses_of d)

-- what it is, apart from how it is stored
abbrev pub slip_in : Slip → SlipValue
slip_in s = record { letter = string_bytes s.letter; items = s.items.items; nearly = option_map string_bytes s.nearly }

-- ---- for private clauses

-- what of a letter decides which other ones it is nearly
pub record KnownValue : Type 0 where
  pub letter : List ℕ
  pub count : ℕ

abbrev pub known_of : UseValue → KnownValue
known_of u = record { letter = u.letter; count = length u.items }

abbrev pub is_meant : KnownValue → KnownValue → Bool
is_meant k other = nat_le k.count other.count && is_near k.letter other.letter

abbrev pub nearest_known : List KnownValue → KnownValue → Option (List ℕ)
nearest_known [] k = None
nearest_known (other ∷ others) k = if is_meant k other then Some other.letter else nearest_known others k
