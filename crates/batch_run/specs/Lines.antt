-- The lines of a text, and those among them that are formula lines: all that are not blank.
use Rattle.std.specs.Prelude.{◌≡◌, ◌⊎◌, ℕ, suc, ◌<◌, Bool, List, [], ◌∷◌, ◌++◌, length, Contains, if◌then◌else◌}
use Rattle.std.specs.List.{list_all}
use Rattle.ltl_lexer.specs.Tokens.{is_white}

abbrev pub newline : ℕ
newline = 10

-- the text begins with this line, which has no newline inside, and the rest stands behind it: a newline is between them, or the
-- line ends with the text. Then it is not empty, since nothing behind a last newline is no line
abbrev pub IsFrontLine : List ℕ → List ℕ → List ℕ → Type 0
IsFrontLine text line rest = (¬ Contains line newline) × ((text ≡ line ++ newline ∷ rest) ⊎ ((text ≡ line) × (rest ≡ []) × (0 < length line)))

-- the text is these lines, one after another
abbrev pub AreLines : List ℕ → List (List ℕ) → Type 0
AreLines text [] = text ≡ []
AreLines text (line ∷ lines) = (rest : List ℕ) × IsFrontLine text line rest × AreLines rest lines

-- the line has white space alone
abbrev pub is_blank : List ℕ → Bool
is_blank line = list_all is_white line

-- a formula line: its number, and its bytes without the newline
pub record FormulaLine : Type 0 where
  pub number : ℕ
  pub bytes : List ℕ

-- the formula lines among some lines, of which the first has this number: all that are not blank
abbrev pub formula_lines : ℕ → List (List ℕ) → List FormulaLine
formula_lines number [] = []
formula_lines number (line ∷ lines) =
    if is_blank line then formula_lines (suc number) lines
    else (record { number = number; bytes = line } ∷ formula_lines (suc number) lines)

-- these are the formula lines of a text whose first line has this number
abbrev pub AreFormulaLines : ℕ → List ℕ → List FormulaLine → Type 0
AreFormulaLines number text found = (lines : List (List ℕ)) × AreLines text lines × (found ≡ formula_lines number lines)
