-- What slices of a certificate text say: literals, hints and numbers of lines.
use Rattle.std.specs.Prelude.{◌≡◌, ℕ, ◌+◌, ◌*◌, ◌%◌, ◌^◌, ◌≤◌, Bool, List, [], ◌∷◌, ◌++◌, length, slice_index_or, All, codes, decimal, Option, Some, ⊤}
use Rattle.std.specs.List.{flat_map}
use Rattle.ltl_syntax.specs.declared.node.Kind.TheVariants as Kinds
use Rattle.cnf_base.specs.declared.literal.Literal.{Literal}
use Rattle.cnf_base.specs.declared.literal.Hint.{Hint}
use Rattle.cert_text.specs.Text.{Part, Line, Delete, Certificate, greatest_u64, IsLiteral, IsHint, IsNumber, sign_text, literal_text, hint_text, target_text}
use Rattle.cert_text.specs.Text.{part_text, header_text}
use Rattle.cert_text.specs.Live.{lines_of, hints_of, parts_before}
use Rattle.cert_text.specs.Scan.{Scan, AtNumber, AtPart, AtLiteral, AtHint, AtEnd, OfDelete, header, start, run}

-- nothing is read so far
abbrev pub blank : Certificate
blank = header 2 Kinds.Infinite 0

-- the certificate that the bytes are the text of
abbrev pub certificate_at : Option Scan → Certificate
certificate_at (Some ([], AtEnd c)) = c
certificate_at s = blank

abbrev pub certificate_in : List ℕ → Certificate
certificate_in bytes = certificate_at (run start bytes)

-- the literals that the bytes spell, each with the space behind it
abbrev pub literals_at : Option Scan → List Literal
literals_at (Some ([], AtLiteral c literals)) = literals
literals_at s = []

abbrev pub literals_in : List ℕ → List Literal
literals_in bytes = literals_at (run ([], AtLiteral blank []) bytes)

-- the hints
abbrev pub hints_at : Option Scan → List Hint
hints_at (Some ([], AtHint c literals hints)) = hints
hints_at s = []

abbrev pub hints_in : List ℕ → List Hint
hints_in bytes = hints_at (run ([], AtHint blank [] []) bytes)

-- the numbers of lines, each with the space before it
abbrev pub numbers_of : List Part → List ℕ
numbers_of [] = []
numbers_of (Delete ns ∷ parts) = ns
numbers_of (Line literals hints ∷ parts) = []

abbrev pub numbers_at : Option Scan → List ℕ
numbers_at (Some ([], AtPart c)) = numbers_of c.parts
numbers_at s = []

abbrev pub numbers_in : List ℕ → List ℕ
numbers_in bytes = numbers_at (run (codes " ", AtNumber (OfDelete blank [])) (bytes ++ codes "\n"))

-- the bytes spell some literals, hints, numbers
abbrev pub AreLiterals : List ℕ → Type 0
AreLiterals bytes = (ls : List Literal) × All IsLiteral ls × (bytes ≡ flat_map literal_text ls)

abbrev pub AreHints : List ℕ → Type 0
AreHints bytes = (hs : List Hint) × All IsHint hs × (bytes ≡ flat_map hint_text hs)

abbrev pub AreNumbers : List ℕ → Type 0
AreNumbers bytes = (ns : List ℕ) × All IsNumber ns × (bytes ≡ flat_map target_text ns)

-- behind a number comes a space, or nothing
abbrev pub EndsNumber : List ℕ → Type 0
EndsNumber [] = ⊤
EndsNumber (b ∷ bytes) = b ≡ 32

-- the value of digits, as the code computes it: nothing wraps where they are those of a number that fits
abbrev pub value_on : ℕ → List ℕ → ℕ
value_on n [] = n
value_on n (b ∷ bytes) = value_on ((n * 10 % 2 ^ 64 + (b + 208) % 2 ^ 8) % 2 ^ 64) bytes

-- a number with its sign and the space behind it, and more
abbrev pub signed_text : Bool → ℕ → List ℕ → List ℕ
signed_text negated n more = sign_text negated ++ (decimal n ++ (32 ∷ more))

-- such a number is at the front
pub record IsSigned (bytes : List ℕ) : Type 0 where
  pub negated : Bool
  pub number : ℕ
  pub more : List ℕ
  pub fits : number ≤ greatest_u64
  pub spelled : bytes ≡ signed_text negated number more

-- the byte at which line k + 1 begins, those at which its literals and its hints end; between them are the 0 and a space
abbrev pub line_start : Certificate → ℕ → ℕ
line_start c k = length (header_text c ++ flat_map part_text (parts_before c.parts k))

abbrev pub literals_end : Certificate → ℕ → ℕ
literals_end c k = line_start c k + length (flat_map literal_text (slice_index_or (lines_of c.parts) k []))

abbrev pub hints_end : Certificate → ℕ → ℕ
hints_end c k = literals_end c k + 2 + length (flat_map hint_text (slice_index_or (hints_of c.parts) k []))

-- the byte behind the word of the close
abbrev pub targets_start : Certificate → ℕ
targets_start c = length (header_text c ++ flat_map part_text c.parts) + 5
