-- Clauses of one literal or none, which nobody watches.
use Rattle.std.specs.Prelude.{◌≡◌, ℕ, ◌<◌, List, length, Some, Contains, slice_index_or}
use Rattle.cnf_base.specs.declared.literal.Literal.{Literal}
use Rattle.cnf_base.specs.declared.literal.Hint.{Hint}
use Rattle.cnf_base.specs.Step.{named}
use Rattle.cdcl_propagate.specs.Visit.{HasTrue, blank_hint}

-- all literals of the clause are one
abbrev pub IsOne : List Literal → Type 0
IsOne clause = (l m : Literal) → Contains clause l → Contains clause m → l ≡ m

-- each short clause is one of the log's, and has one literal alone, or none
abbrev pub AreShort : List (List Literal) → List (List Literal) → List Hint → Type 0
AreShort inputs lines units =
    (u : ℕ) → u < length units → (clause : List Literal) × (named inputs lines (slice_index_or units u blank_hint) ≡ Some clause) × IsOne clause

-- the first short clauses have a true literal
abbrev pub AreFirm : List (List Literal) → List (List Literal) → List Hint → ℕ → List Literal → Type 0
AreFirm inputs lines units units_done true_ones =
    (u : ℕ) (clause : List Literal) → u < units_done → named inputs lines (slice_index_or units u blank_hint) ≡ Some clause → HasTrue true_ones clause
