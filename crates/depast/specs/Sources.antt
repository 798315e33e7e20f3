-- Where the truth of what a new name stands for is read: a formula of the table, a number of positions back.
use Rattle.std.specs.Prelude.{◌≡◌, ℕ, ◌+◌, ◌-◌, ◌<◌, ◌≤◌, ◌↔◌, ◌⊎◌, Bool, true, false, nat_lt, if◌then◌else◌, IsTrue, List, [], ◌∷◌, ◌++◌, length}
use Rattle.std.specs.Prelude.{slice_index_or, Contains, ⊤}
use Rattle.ltl_syntax.specs.declared.node.Node.{Node}
use Rattle.ltl_syntax.specs.declared.node.Node.TheVariants as nodes
use Rattle.ltl_syntax.specs.declared.node.UnaryOp.TheVariants.{YesterdayTimes, HistoricallyIn}
use Rattle.ltl_syntax.specs.Formula.{Formula, Unary}
use Rattle.ltl_syntax.specs.Table.{Table, tree_at}
use Rattle.ltl_word.specs.declared.trace.Trace.{Trace}
use Rattle.ltl_word.specs.Trace.{Names, state_at}
use Rattle.ltl_word.specs.Holds.{Holds}
use Rattle.lasso_eval.specs.Rows.{cell, row_at}
use Rattle.ltl_syntax.specs.Under.{IsUnder}
use Rattle.depast.specs.declared.sources.Source.{Source}
use Rattle.depast.specs.declared.lifting.Meanings.{Meanings}
use Rattle.depast.specs.Lifting.{meanings, meanings₁, meanings₂}

-- the formula holds this number of positions back. Where there is no such position, the last word is said by `beyond`
abbrev pub HeldBack : Trace → Formula → ℕ → Bool → ℕ → Type 0
HeldBack t f back true i = back ≤ i → Holds t f (i - back)
HeldBack t f back false i = (back ≤ i) × Holds t f (i - back)

-- this number of positions back, or always where there is no such position
abbrev pub behind : Bool → ℕ → Formula → Formula
behind true m f = Unary (HistoricallyIn m m) f
behind false m f = Unary (YesterdayTimes m) f

-- the truth of g is read from the source, on each trace
pub record IsSource (t : Table) (root : ℕ) (s : Source) (g : Formula) : Type 0 where
  pub under : IsUnder t root s.node
  pub says : (u : Trace) (i : ℕ) → Holds u g i ↔ HeldBack u (tree_at t s.node) s.back s.beyond i

-- each from the source at its place
abbrev pub AreSources : Table → ℕ → List Source → List Formula → Type 0
AreSources t root [] [] = ⊤
AreSources t root [] (g ∷ gs) = ⊥
AreSources t root (s ∷ ss) [] = ⊥
AreSources t root (s ∷ ss) (g ∷ gs) = IsSource t root s g × AreSources t root ss gs

-- what the names of a node's operator stand for
abbrev pub own_meanings : Table → Node → List Formula
own_meanings t (nodes.Const b) = []
own_meanings t (nodes.Letter n) = []
own_meanings t (nodes.Fresh n) = []
own_meanings t (nodes.Unary op a) = meanings₁ op (tree_at t a)
own_meanings t (nodes.Binary op a b) = meanings₂ op (tree_at t a) (tree_at t b)

-- what the names of formulas on a stack stand for, the last of them first
abbrev pub meanings_by : List Formula → List Formula
meanings_by [] = []
meanings_by (f ∷ fs) = meanings_by fs ++ meanings f

-- the truth value that is read
abbrev pub shown : List (List Bool) → Source → ℕ → Bool
shown rows s i = if nat_lt i s.back then s.beyond else cell (row_at rows s.node) (i - s.back)

-- no source
abbrev pub blank_source : Source
blank_source = record { node = 0; back = 0; beyond = false }

-- at a position each source can be read, and each has a name
pub record AreReadable (m : Meanings) (names : Names) (i : ℕ) : Type 0 where
  pub named : length m.sources.items ≤ length names
  pub rows : (k : ℕ) → k < length m.sources.items → i < length (row_at m.values (slice_index_or m.sources.items k blank_source).node)

-- the new names of the first n sources that are true at a position
abbrev pub IsShown : Meanings → Names → ℕ → ℕ → List ℕ → Type 0
IsShown m names i n name = (k : ℕ) × (k < n) × (name ≡ slice_index_or names k []) × IsTrue (shown m.values (slice_index_or m.sources.items k blank_source) i)

-- the state has the old names of another and the new names that are true
abbrev pub IsLiftedState : Meanings → Names → Names → ℕ → Names → Type 0
IsLiftedState m names old i state =
    (name : List ℕ) → Contains state name ↔ ((Contains old name × (Contains m.new name → ⊥)) ⊎ IsShown m names i (length m.sources.items) name)

-- and so each state from a position on
pub record AreLiftedStates (m : Meanings) (names : Names) (t : Trace) (first count : ℕ) (states : List Names) : Type 0 where
  pub long : length states ≡ count
  pub each : (i : ℕ) → i < count → IsLiftedState m names (state_at t (first + i)) (first + i) (slice_index_or states i [])
