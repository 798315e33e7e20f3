-- What is kept of a formula whose past operators are taken out.
use Rattle.std.specs.Prelude.{◌≡◌, ℕ, ◌<◌, ◌≤◌, List, [], length, slice_index_or}
use Rattle.ltl_syntax.specs.Formula.{Formula}
use Rattle.ltl_syntax.specs.Size.{formula_size}
use Rattle.ltl_syntax.specs.Table.{Table, IsRoot, tree_at}
use Rattle.depast.specs.Depast.{taken, depast}
use Rattle.depast.specs.Names.{most_leading, new_name}

-- a table with the number of a root, and the new names by their numbers
pub record Kept : Type 0 where
  pub table : Table
  pub root : ℕ
  pub names : List (List ℕ)

-- these are the new names of the formula
pub record AreNewNames (f : Formula) (names : List (List ℕ)) : Type 0 where
  pub count : length names ≡ taken f
  pub each : (k : ℕ) → k < taken f → slice_index_or names k [] ≡ new_name (most_leading f) k

-- it is the formula without past operators, with the new names
pub record IsRemoved (f : Formula) (r : Kept) : Type 0 where
  pub root_is : IsRoot r.table r.root
  pub tree_is : tree_at r.table r.root ≡ depast f
  pub small : formula_size (depast f) ≤ 16384
  pub names_are : AreNewNames f r.names

-- a is the size of the formula without past operators, and too large
abbrev pub IsTooLarge : Formula → ℕ → Type 0
IsTooLarge f a = (a ≡ formula_size (depast f)) × (16384 < a)
