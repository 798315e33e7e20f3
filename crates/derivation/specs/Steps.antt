-- Lines that follow one after another from a list of clauses.
use Rattle.std.specs.Prelude.{◌≡◌, ℕ, ◌<◌, List, [], ◌∷◌, ◌++◌, length, take, slice_index_or}
use Rattle.cnf_base.specs.declared.literal.Literal.{Literal}
use Rattle.cnf_base.specs.declared.literal.Hint.{Hint}
use Rattle.cnf_base.specs.Step.{IsHintedStep}
use Rattle.clause_log.specs.LogValue.{greatest_u32}

-- the clauses of the lines, and the lines' hints
pub record DerivationValue : Type 0 where
  pub lines : List (List Literal)
  pub hints : List (List Hint)

-- these lines with these hints
abbrev pub lines_by : List (List Literal) → List (List Hint) → DerivationValue
lines_by lines hints = record { lines = lines; hints = hints }

-- the clause with its hints is put behind the lines
abbrev pub with_step : DerivationValue → List Literal → List Hint → DerivationValue
with_step d clause hints = record { lines = d.lines ++ clause ∷ []; hints = d.hints ++ hints ∷ [] }

-- each line is a hinted step over the list and the lines before it
pub record AreSteps (list : List (List Literal)) (d : DerivationValue) : Type 0 where
  pub paired : length d.hints ≡ length d.lines
  pub steps : (k : ℕ) → k < length d.lines → IsHintedStep list (take k d.lines) greatest_u32 (slice_index_or d.lines k []) (slice_index_or d.hints k [])

-- they are steps over some list
abbrev pub IsDerivation : DerivationValue → Type 0
IsDerivation d = (list : List (List Literal)) × AreSteps list d
