use Rattle.std.proofs.Common.{◌≡◌, ℕ, ◌-◌, List, map, length, Vec, Global}
use Rattle.cdcl_watches.specs.Pool.{row_at}
use Rattle.cdcl_watches.proofs.spare.lengthen.Given as goal

abbrev items_of : Vec ℕ Global → List ℕ
items_of v = v.items

abbrev pub invariant-more : goal.invariant-more
invariant-more l = (d : ℕ) → row_at (map items_of l.rows.items) d ≡ row_at (map items_of l.initial.rows.items) d

abbrev pub decreases-more : goal.decreases-more
decreases-more l = l.count - length l.rows.items
