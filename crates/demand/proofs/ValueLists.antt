-- Lists of values: where they differ, and tests of all values.
use Rattle.std.proofs.Common.{◌≡◌, ℕ, zero, suc, ◌<◌, Bool, true, false, not, IsTrue, refl, arith, subst, ap, ap₂, List, [], ◌∷◌, length, Option, Some, None}
use Rattle.std.specs.Prelude.{is_some}
use mathlib.Core.Bool.{beq}
use Rattle.demand.specs.Values.{value_at, difference, one_more, are_false}

-- lists with no first difference are one
same_some : (o : Option ℕ) → IsTrue (not (is_some (one_more o))) → IsTrue (not (is_some o))
same_some (Some q) h = h
same_some None h = h

pub no_difference : (xs ys : List Bool) → IsTrue (not (is_some (difference xs ys))) → xs ≡ ys
no_difference [] [] h = refl
no_difference [] (y ∷ ys) h = cc
no_difference (x ∷ xs) [] h = cc
no_difference (true ∷ xs) (true ∷ ys) h = ap (λ zs. true ∷ zs) (no_difference xs ys (same_some (difference xs ys) h))
no_difference (true ∷ xs) (false ∷ ys) h = cc
no_difference (false ∷ xs) (true ∷ ys) h = cc
no_difference (false ∷ xs) (false ∷ ys) h = ap (λ zs. false ∷ zs) (no_difference xs ys (same_some (difference xs ys) h))

pub difference_itself : (xs : List Bool) → difference xs xs ≡ None
difference_itself [] = refl
difference_itself (true ∷ xs) = ap one_more (difference_itself xs)
difference_itself (false ∷ xs) = ap one_more (difference_itself xs)

pub same_difference : (xs ys : List Bool) → xs ≡ ys → IsTrue (not (is_some (difference xs ys)))
same_difference xs ys e = subst (λ zs. IsTrue (not (is_some (difference xs zs)))) e (ap (λ o. not (is_some o)) (difference_itself xs))

pub difference_none : (xs ys : List Bool) → difference xs ys ≡ None → xs ≡ ys
difference_none xs ys h = no_difference xs ys (ap (λ o. not (is_some o)) h)

pub difference_of_same : (xs ys : List Bool) → xs ≡ ys → difference xs ys ≡ None
difference_of_same xs ys e = subst (λ zs. difference xs zs ≡ None) e (difference_itself xs)

both_begin : (x y : Bool) (xs ys : List Bool) (n : ℕ) → x ≡ y → difference xs ys ≡ Some n → difference (x ∷ xs) (y ∷ ys) ≡ Some (suc n)
both_begin true true xs ys n e h = ap one_more h
both_begin false false xs ys n e h = ap one_more h
both_begin true false xs ys n e h = cc
both_begin false true xs ys n e h = cc

-- the first place is the one that a walk upward comes to
pub difference_is : (xs ys : List Bool) (i : ℕ) → i < length xs → i < length ys → ((j : ℕ) → j < i → value_at xs j ≡ value_at ys j)
    → (value_at xs i ≡ value_at ys i → ⊥)
    → difference xs ys ≡ Some i
difference_is [] ys i lx ly same differ = absurd (omega arith)
difference_is (x ∷ xs) [] i lx ly same differ = absurd (omega arith)
difference_is (true ∷ xs) (true ∷ ys) zero lx ly same differ = absurd (differ refl)
difference_is (false ∷ xs) (false ∷ ys) zero lx ly same differ = absurd (differ refl)
difference_is (true ∷ xs) (false ∷ ys) zero lx ly same differ = refl
difference_is (false ∷ xs) (true ∷ ys) zero lx ly same differ = refl
difference_is (true ∷ xs) (true ∷ ys) (suc i) lx ly same differ =
    ap one_more (difference_is xs ys i (omega arith) (omega arith) (λ j lt. same (suc j) (omega arith)) differ)
difference_is (false ∷ xs) (false ∷ ys) (suc i) lx ly same differ =
    ap one_more (difference_is xs ys i (omega arith) (omega arith) (λ j lt. same (suc j) (omega arith)) differ)
difference_is (true ∷ xs) (false ∷ ys) (suc i) lx ly same differ = let e : true ≡ false = same 0 (omega arith) in cc
difference_is (false ∷ xs) (true ∷ ys) (suc i) lx ly same differ = let e : false ≡ true = same 0 (omega arith) in cc

-- or that behind the shorter list
pub left_ends : (xs ys : List Bool) (n : ℕ) → n ≡ length xs → n < length ys → ((j : ℕ) → j < n → value_at xs j ≡ value_at ys j) → difference xs ys ≡ Some n
left_ends [] [] n e lt same = absurd (omega arith)
left_ends [] (y ∷ ys) n e lt same = let z : 0 ≡ n = omega arith in ap (λ m. Some m) z
left_ends (x ∷ xs) ys zero e lt same = absurd (omega arith)
left_ends (x ∷ xs) [] (suc n) e lt same = absurd (omega arith)
left_ends (x ∷ xs) (y ∷ ys) (suc n) e lt same =
    both_begin x y xs ys n (same 0 (omega arith)) (left_ends xs ys n (omega arith) (omega arith) (λ j less. same (suc j) (omega arith)))

pub right_ends : (xs ys : List Bool) (n : ℕ) → n ≡ length ys → n < length xs → ((j : ℕ) → j < n → value_at xs j ≡ value_at ys j) → difference xs ys ≡ Some n
right_ends [] ys n e lt same = absurd (omega arith)
right_ends (x ∷ xs) [] n e lt same = let z : 0 ≡ n = omega arith in ap (λ m. Some m) z
right_ends (x ∷ xs) (y ∷ ys) zero e lt same = absurd (omega arith)
right_ends (x ∷ xs) (y ∷ ys) (suc n) e lt same =
    both_begin x y xs ys n (same 0 (omega arith)) (right_ends xs ys n (omega arith) (omega arith) (λ j less. same (suc j) (omega arith)))

-- a value that is true, and none that is
pub true_at : (xs : List Bool) (i : ℕ) → value_at xs i ≡ true → are_false xs ≡ false
true_at [] i h = cc
true_at (true ∷ xs) i h = refl
true_at (false ∷ xs) zero h = cc
true_at (false ∷ xs) (suc i) h = true_at xs i h

pub false_at : (xs : List Bool) → ((i : ℕ) → i < length xs → value_at xs i ≡ false) → are_false xs ≡ true
false_at [] h = refl
false_at (true ∷ xs) h = let e : true ≡ false = h 0 (omega arith) in cc
false_at (false ∷ xs) h = false_at xs (λ i lt. h (suc i) (omega arith))

pub equal : (a b : Bool) → not (beq a b) ≡ false → a ≡ b
equal true true e = refl
equal true false e = cc
equal false true e = cc
equal false false e = refl

pub unequal : (a b : Bool) → not (beq a b) ≡ true → a ≡ b → ⊥
unequal true true e h = cc
unequal true false e h = cc
unequal false true e h = cc
unequal false false e h = cc

pub same_values : (xs ys : List Bool) → length xs ≡ length ys → ((j : ℕ) → j < length xs → value_at xs j ≡ value_at ys j) → xs ≡ ys
same_values [] [] e h = refl
same_values [] (y ∷ ys) e h = absurd (omega arith)
same_values (x ∷ xs) [] e h = absurd (omega arith)
same_values (x ∷ xs) (y ∷ ys) e h = ap₂ ◌∷◌ (h 0 (omega arith)) (same_values xs ys (omega arith) (λ j lt. h (suc j) (omega arith)))
