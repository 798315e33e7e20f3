-- Which numbers clauses have in a list.
use Rattle.std.specs.Prelude.{◌≡◌, ℕ, ◌+◌, ◌<◌, ◌≤◌, List, [], length, slice_index_or}
use Rattle.cnf_base.specs.declared.literal.Literal.{Literal as Signed}
use Rattle.cnf_base.specs.Step.{clause_at}
use Rattle.enc_layout.specs.Clauses.{Clause, signed_clauses, clause_list}
use Rattle.clause_index.specs.declared.numbers.Numbers.{Numbers}
use Rattle.clause_index.specs.Indexed.{IndexedValue}

-- the clauses stand in the list in their order, the first of them under this number
pub record StandFrom (list : List (List Signed)) (first : ℕ) (clauses : List (List Signed)) : Type 0 where
  pub from_one : 1 ≤ first
  pub within : first + length clauses ≤ length list + 1
  pub each : (j : ℕ) → j < length clauses → clause_at list (first + j) ≡ slice_index_or clauses j []

-- these are their numbers
pub record AreNumbersOf (x : IndexedValue) (numbers : Numbers) (clauses : List Clause) : Type 0 where
  pub count : numbers.count ≡ length clauses
  pub stand : StandFrom (clause_list x.formula x.kind x.depth) numbers.first (signed_clauses x.formula x.kind clauses)
