-- What a replacement has done so far: which nodes are marked, and which have a fresh letter written over them.
use Rattle.std.specs.Prelude.{◌≡◌, ℕ, ◌<◌, ◌⊎◌, ◌&&◌, ◌==◌, nat_lt, Bool, false, List, length, slice_index_or, slice_get, Some, IsTrue}
use Rattle.std.specs.List.{list_any}
use Rattle.ltl_syntax.specs.declared.node.Node.{Node}
use Rattle.ltl_syntax.specs.declared.node.Node.TheVariants as nodes
use Rattle.ltl_syntax.specs.Replacement.{Places}
use Rattle.ltl_syntax.specs.Flat.{count_in}

-- the numbers of a list are marked, and no others
abbrev pub AreMarked : List ℕ → List Bool → Type 0
AreMarked numbers marks = (number : ℕ) → slice_index_or marks number false ≡ list_any (λ m. m == number) numbers

-- no number comes twice
abbrev pub AreDistinct : List ℕ → Type 0
AreDistinct numbers = (i j : ℕ) → i < j → j < length numbers → slice_index_or numbers i 0 ≡ slice_index_or numbers j 0 → ⊥

-- the places in an order of nodes at which the node is marked
abbrev pub marked_places : List ℕ → List Bool → Places
marked_places order marks n = nat_lt n (length order) && slice_index_or marks (slice_index_or order n 0) false

-- each node is as it was, or a fresh letter
abbrev pub AreFreshOrSame : List Node → List Node → Type 0
AreFreshOrSame old new = (length new ≡ length old)
    × ((i : ℕ) → i < length old → ((n : ℕ) × (slice_get new i ≡ Some (nodes.Fresh n))) ⊎ (slice_get new i ≡ slice_get old i))

-- at the first places of an order, those that are in P have a fresh letter with its number, and all else is as it was
pub record AreCut (order : List ℕ) (P : Places) (count : ℕ) (old new : List Node) : Type 0 where
  pub each : AreFreshOrSame old new
  pub cut : (n : ℕ) → n < count → IsTrue (P n) → slice_get new (slice_index_or order n 0) ≡ Some (nodes.Fresh (count_in P 0 n))
  pub kept : (number : ℕ) → number < length old → ((n : ℕ) → n < count → IsTrue (P n) → slice_index_or order n 0 ≡ number → ⊥)
      → slice_get new number ≡ slice_get old number
