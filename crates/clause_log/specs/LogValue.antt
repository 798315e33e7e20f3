-- What contracts see of a log.
use Rattle.std.specs.Prelude.{◌≡◌, ℕ, Bool, ◌<◌, ◌-◌, List, [], ◌∷◌, ◌++◌, length, take, slice_index_or}
use Rattle.cnf_base.specs.declared.literal.Literal.{Literal}
use Rattle.cnf_base.specs.declared.literal.Hint.{Hint}
use Rattle.cnf_base.specs.Step.{IsHintedStep}
use Rattle.cnf_base.specs.Meaning.{Satisfies}

-- the input clauses, the clauses of the lines, and the lines' hints
pub record LogValue : Type 0 where
  pub inputs : List (List Literal)
  pub lines : List (List Literal)
  pub hints : List (List Hint)

-- the greatest number of a `u32`
abbrev pub greatest_u32 : ℕ
greatest_u32 = 4294967295

-- the hints of a line of a number from 1 to the count
abbrev pub hints_at : List (List Hint) → ℕ → List Hint
hints_at hints line = slice_index_or hints (line - 1) []

-- the clause is put behind the inputs
abbrev pub with_input : LogValue → List Literal → LogValue
with_input log clause = record { inputs = log.inputs ++ clause ∷ []; lines = log.lines; hints = log.hints }

-- the clause with its hints is put behind the lines
abbrev pub with_line : LogValue → List Literal → List Hint → LogValue
with_line log clause hints = record { inputs = log.inputs; lines = log.lines ++ clause ∷ []; hints = log.hints ++ hints ∷ [] }

-- each line is a hinted step over the inputs and the lines before it
pub record IsLog (log : LogValue) : Type 0 where
  pub paired : length log.hints ≡ length log.lines
  pub steps : (k : ℕ) → k < length log.lines
      → IsHintedStep log.inputs (take k log.lines) greatest_u32 (slice_index_or log.lines k []) (slice_index_or log.hints k [])

-- a clause was put behind the inputs of a log
pub record IsInputAdded (before now : LogValue) : Type 0 where
  pub log : IsLog before
  pub clause : List Literal
  pub is : now ≡ with_input before clause

-- a clause with its hints was put behind the lines; what was there before is a log, since no line rests on a later one
pub record IsLineAdded (before now : LogValue) : Type 0 where
  pub clause : List Literal
  pub hints : List Hint
  pub is : now ≡ with_line before clause hints

-- what satisfies the inputs of a log satisfies each line
abbrev pub LinesFollow : Type 0
LinesFollow = (log : LogValue) → IsLog log → (v : ℕ → Bool) → Satisfies v log.inputs → Satisfies v log.lines
