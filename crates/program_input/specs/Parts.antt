-- The two parts of an input, cut at the first line that is a separator.
use Rattle.std.specs.Prelude.{◌≡◌, ◌≤◌, ◌⊎◌, ◌++◌, ℕ, List, [], ◌∷◌, length, codes}

abbrev pub newline : List ℕ
newline = 10 ∷ []

-- the line is ---, and perhaps one carriage return
abbrev pub IsSeparator : List ℕ → Type 0
IsSeparator line = (line ≡ codes "---") ⊎ (line ≡ codes "---" ++ 13 ∷ [])

-- what stands before a line: nothing, or a text and the newline after it
abbrev pub EndsLine : List ℕ → List ℕ → Type 0
EndsLine before text = ((before ≡ []) × (text ≡ [])) ⊎ (before ≡ text ++ newline)

-- what stands after a line: nothing, or a newline and then a text
abbrev pub BeginsLine : List ℕ → List ℕ → Type 0
BeginsLine after text = ((after ≡ []) × (text ≡ [])) ⊎ (after ≡ newline ++ text)

-- a separator line stands in the bytes between these two texts
pub record IsLine (bytes before line after : List ℕ) : Type 0 where
  pub text : List ℕ
  pub second : List ℕ
  pub whole : bytes ≡ before ++ line ++ after
  pub separator : IsSeparator line
  pub begins : EndsLine before text
  pub ends : BeginsLine after second

abbrev pub HasNoSeparator : List ℕ → Type 0
HasNoSeparator bytes = (before line after : List ℕ) → IsLine bytes before line after → ⊥

-- the bytes are cut at the first separator line into the formula part and the second part. Each part begins where its
-- first byte stands, so that a place in the formula part is a place in the bytes
pub record IsCut (bytes formula second : List ℕ) : Type 0 where
  pub before : List ℕ
  pub line : List ℕ
  pub after : List ℕ
  pub whole : bytes ≡ before ++ line ++ after
  pub separator : IsSeparator line
  pub begins : EndsLine before formula
  pub ends : BeginsLine after second
  pub first : (b l a : List ℕ) → IsLine bytes b l a → length before ≤ length b
