-- The nodes under a root are no more than those of the table, so a tree of a table has no more nodes than the table.
use Rattle.std.proofs.Common.{◌≡◌, ℕ, zero, suc, ◌+◌, ◌<◌, ◌≤◌, inl, inr, subst, ap, arith, refl, sym, true, false, List, [], ◌∷◌, length, get_or, eqb}
use Rattle.std.proofs.Common.{Contains}
use Rattle.std.specs.List.{IsDistinct, AllByRecursion, list_any}
use Rattle.std.proofs.lemmas.Bool.{cases_Bool, eqb-true, or_cases}
use Rattle.std.proofs.lemmas.Map.Steps.{length-le_from_distinct_below}
use Rattle.ltl_syntax.specs.Formula.{nodes_in}
use Rattle.ltl_syntax.specs.Table.{Table, IsTable, tree_at}
use Rattle.ltl_syntax.specs.Flat.{order_at}
use Rattle.ltl_syntax.specs.Cutting.{AreDistinct}
use Rattle.ltl_syntax.proofs.Members.{Contains-here, Contains-there}
use Rattle.ltl_syntax.proofs.Orders.{order_long}
use Rattle.ltl_syntax.proofs.Distinct.{order_low, order_distinct}

differ : (x y : ℕ) → (x ≡ y → ⊥) → eqb x y ≡ false
differ x y h = elim (cases_Bool (eqb x y)) [
  | inl e ↦ absurd (h (eqb-true x y e))
  | inr e ↦ e
]

all_differ : (x : ℕ) (xs : List ℕ) → ((j : ℕ) → j < length xs → x ≡ get_or xs j 0 → ⊥) → AllByRecursion (λ y. eqb x y ≡ false) xs
all_differ x [] h = tt
all_differ x (y ∷ ys) h = (differ x y (h zero (omega arith)), all_differ x ys (λ j lt. h (suc j) (omega arith)))

distinct_keys : (xs : List ℕ) → AreDistinct xs → IsDistinct eqb xs
unfolding IsDistinct
distinct_keys [] h = tt
distinct_keys (x ∷ xs) h =
    (all_differ x xs (λ j lt. h zero (suc j) (omega arith) (omega arith)), distinct_keys xs (λ i j lt low. h (suc i) (suc j) (omega arith) (omega arith)))

any_member : (xs : List ℕ) (q : ℕ) → list_any (eqb q) xs ≡ true → Contains xs q
any_member [] q e = cc
any_member (x ∷ xs) q e = elim (or_cases (eqb q x) (list_any (eqb q) xs) e) [
  | inl here ↦ subst (λ z. Contains (x ∷ xs) z) (sym (eqb-true q x here)) (Contains-here x xs)
  | inr rest ↦ Contains-there x xs q (any_member xs q rest)
]

-- nor more than the numbers up to the root
pub order_up_to : (t : Table) → IsTable t.nodes t.names → (root : ℕ) → root < length t.nodes → length (order_at t root) ≤ root + 1
order_up_to t is root lt =
    length-le_from_distinct_below (order_at t root) (root + 1) (distinct_keys (order_at t root) (order_distinct t is root lt))
    (λ q e. let low = order_low t is root lt q (any_member (order_at t root) q e) in omega arith)

pub order_few : (t : Table) → IsTable t.nodes t.names → (root : ℕ) → root < length t.nodes → length (order_at t root) ≤ length t.nodes
order_few t is root lt = omega (arith, lt, order_up_to t is root lt)

-- a tree of a table has at most 16,384 nodes
pub order_small : (t : Table) → IsTable t.nodes t.names → (root : ℕ) → root < length t.nodes → (order : List ℕ) → order ≡ order_at t root
    → length order ≤ 16384
order_small t is root lt order same = omega (arith, ap length same, order_few t is root lt, is.few)

pub tree_few : (t : Table) → IsTable t.nodes t.names → (root : ℕ) → root < length t.nodes → nodes_in (tree_at t root) ≤ 16384
tree_few t is root lt = omega (arith, order_long t is root lt, order_small t is root lt (order_at t root) refl)
