-- The items of a document by their numbers, which count from 0 in the document's order.
use Rattle.std.specs.Prelude.{ℕ, Bool, true, false, not, ◌==◌, List, map, length, slice_index_or}
use Rattle.std.specs.List.{filter, list_any, range_with_len}
use Rattle.ltl_syntax.specs.Formula.{Formula, Const}
use Rattle.requirement_document.specs.declared.document.Role.{Role}
use Rattle.requirement_document.specs.declared.document.Role.TheVariants as roles
use Rattle.requirement_document.specs.Values.{DocumentValue}

-- the numbers of all items
abbrev pub numbers_of : DocumentValue → List ℕ
numbers_of d = range_with_len 0 (length d.items)

abbrev pub role_of : DocumentValue → ℕ → Role
role_of d n = slice_index_or (map (λ i. i.role) d.items) n roles.Assume

abbrev pub formula_of : DocumentValue → ℕ → Formula
formula_of d n = slice_index_or (map (λ i. i.formula) d.items) n (Const true)

-- the formulas of the items with these numbers
abbrev pub formulas_of : DocumentValue → List ℕ → List Formula
formulas_of d numbers = map (formula_of d) numbers

-- an item that is assumed or required is given, one that is to stay possible or to follow is not
abbrev pub is_given : Role → Bool
is_given roles.Assume = true
is_given roles.Require = true
is_given roles.Allow = false
is_given roles.Ensure = false

-- the numbers of the given items, ascending
abbrev pub given_numbers : DocumentValue → List ℕ
given_numbers d = filter (λ n. is_given (role_of d n)) (numbers_of d)

abbrev pub is_among : List ℕ → ℕ → Bool
is_among numbers n = list_any (λ m. m == n) numbers

-- these numbers without those that are taken away
abbrev pub without : List ℕ → List ℕ → List ℕ
without away numbers = filter (λ n. not (is_among away n)) numbers
