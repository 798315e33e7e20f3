-- Rows of truth values.
use Rattle.std.specs.Prelude.{◌≡◌, ℕ, ◌<◌, ◌↔◌, Bool, false, List, [], length, slice_index_or, IsTrue}
use Rattle.ltl_syntax.specs.Formula.{Formula}
use Rattle.ltl_syntax.specs.Table.{Table, tree_at}
use Rattle.ltl_word.specs.declared.trace.Trace.{Trace}
use Rattle.ltl_word.specs.Holds.{Holds}
use Rattle.ltl_word.specs.Claims.{Claim}
use Rattle.lasso_eval.specs.Cells.{columns, positions}
use Rattle.ltl_syntax.specs.Under.{IsUnder}

-- the truth value in a column
abbrev pub cell : List Bool → ℕ → Bool
cell row i = slice_index_or row i false

-- the row says of each of the first n positions whether the claim holds there
pub record IsRow (n : ℕ) (A : Claim) (row : List Bool) : Type 0 where
  pub count : length row ≡ n
  pub right : (i : ℕ) → i < n → IsTrue (cell row i) ↔ A i

-- the row says where the formula holds, in the columns of this past depth
abbrev pub Tells : Trace → ℕ → Formula → List Bool → Type 0
Tells t depth f row = IsRow (columns t depth) (Holds t f) row

-- the row of a node in a table of rows, which has one for each node number
abbrev pub row_at : List (List Bool) → ℕ → List Bool
row_at rows number = slice_index_or rows number []

-- the row of each node under the root says where its formula holds
abbrev pub AreValues : Table → ℕ → Trace → List (List Bool) → Type 0
AreValues table root t rows =
    (number : ℕ) → IsUnder table root number → IsRow (positions t (tree_at table root)) (Holds t (tree_at table number)) (row_at rows number)
