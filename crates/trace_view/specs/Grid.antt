-- The grid of a trace: for each letter that is asked for, whether it is true in each state that is shown.
use Rattle.std.specs.Prelude.{◌≡◌, ◌↔◌, ℕ, ◌+◌, ◌*◌, ◌<◌, Bool, false, List, [], length, map, All, Option, Some, None, slice_index_or, IsTrue, Contains, refl}
use Rattle.std.specs.Coded.{Coded, code_by, coded×, coded_list, coded_bool, coded_ℕ}
use Rattle.ltl_word.specs.declared.trace.Trace.{Trace}
use Rattle.ltl_word.specs.declared.trace.Trace.TheVariants.{Infinite, Finite}
use Rattle.ltl_word.specs.Trace.{Names, state_at}

-- a row: a letter, and for each state whether it is true there
pub record RowValue : Type 0 where
  pub name : List ℕ
  pub cells : List Bool

abbrev pub coded_row : Coded RowValue
coded_row =
    code_by (List ℕ × List Bool) (coded× (coded_list coded_ℕ) (coded_list coded_bool))
    (λ r. (r.name, r.cells)) (λ p. record { name = p.0; cells = p.1 }) (λ _. refl)

-- a grid: its rows, how many states are shown, and where the loop begins, which a finite trace has not
pub record GridValue : Type 0 where
  pub rows : List RowValue
  pub states : ℕ
  pub loop_at : Option ℕ

-- how many states are shown: the stem and the loop once, or all
abbrev pub states_in : Trace → ℕ
states_in (Infinite stem loop_part) = length stem + length loop_part
states_in (Finite states) = length states

-- the loop begins behind the stem
abbrev pub loop_in : Trace → Option ℕ
loop_in (Infinite stem loop_part) = Some (length stem)
loop_in (Finite states) = None

-- there is a cell for each state, and it is filled exactly where the letter is true in it
pub record IsRowOf (t : Trace) (row : RowValue) : Type 0 where
  pub count : length row.cells ≡ states_in t
  pub filled : (i : ℕ) → i < states_in t → IsTrue (slice_index_or row.cells i false) ↔ Contains (state_at t i) row.name

-- the rows are those of the letters in their order, over the states of the trace
pub record IsGridOf (t : Trace) (letters : Names) (g : GridValue) : Type 0 where
  pub letters_are : map (λ (r : RowValue). r.name) g.rows ≡ letters
  pub rows_are : All (IsRowOf t) g.rows
  pub states_are : g.states ≡ states_in t
  pub loop_is : g.loop_at ≡ loop_in t

-- how many cells there are, where the numbers of the states count as a row
abbrev pub cells_for : Trace → Names → ℕ
cells_for t letters = (length letters + 1) * states_in t

-- the letter is true in some state that is shown
abbrev pub Occurs : Trace → List ℕ → Type 0
Occurs t name = (i : ℕ) × (i < states_in t) × Contains (state_at t i) name

-- ---- for private clauses

-- the cells of a letter over a list of states
pub record AreCells (states : List Names) (name : List ℕ) (cells : List Bool) : Type 0 where
  pub count : length cells ≡ length states
  pub filled : (i : ℕ) → i < length states → IsTrue (slice_index_or cells i false) ↔ Contains (slice_index_or states i []) name
