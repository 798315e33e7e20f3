-- Marks for the numbers of a list, and the places at which the marked nodes stand.
use Rattle.std.proofs.Common.{◌≡◌, ℕ, ap, refl, Bool, true, false, ◌&&◌, ◌||◌, ltb, List, length}
use Rattle.ltl_syntax.specs.Table.{Table}
use Rattle.ltl_syntax.specs.Replacement.{AreSame}
use Rattle.ltl_syntax.specs.Flat.{order_at, node_at, places_of}
use Rattle.ltl_syntax.specs.Cutting.{AreMarked, marked_places}

or_false : (b : Bool) → (b || false) ≡ b
or_false true = refl
or_false false = refl

-- the marked places are those at which the nodes of the list stand
pub same_places : (t : Table) (root : ℕ) (numbers : List ℕ) (marks : List Bool) → AreMarked numbers marks
    → AreSame (marked_places (order_at t root) marks) (places_of t root numbers)
same_places t root numbers marks h n = ap (λ b. ltb n (length (order_at t root)) && b) (h (node_at t root n))
