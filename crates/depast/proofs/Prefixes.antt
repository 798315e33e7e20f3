-- How new names begin.
use Rattle.std.proofs.Common.{◌≡◌, ℕ, zero, suc, ◌+◌, refl, ◌∙◌, ap, arith, List, [], ◌∷◌, ◌++◌, append_assoc}
use Rattle.std.specs.Fmt.{decimal}
use Rattle.depast.specs.Names.{underscores, new_name}

on_end : (n : ℕ) (xs : List ℕ) → underscores n ++ 95 ∷ xs ≡ underscores (suc n) ++ xs
on_end zero xs = refl
on_end (suc n) xs = ap (λ ys. 95 ∷ ys) (on_end n xs)

no_more : (n : ℕ) → underscores n ++ [] ≡ underscores n
no_more zero = refl
no_more (suc n) = ap (λ ys. 95 ∷ ys) (no_more n)

pub one_more : (n : ℕ) → underscores n ++ 95 ∷ [] ≡ underscores (n + 1)
one_more n = let e : suc n ≡ n + 1 = omega arith in on_end n [] ∙ (no_more (suc n) ∙ ap underscores e)

pub last_one : (n m : ℕ) → n ≡ m → underscores n ++ 95 ∷ 112 ∷ [] ≡ underscores (suc m) ++ 112 ∷ []
last_one n m e = on_end n (112 ∷ []) ∙ ap (λ k. underscores (suc k) ++ 112 ∷ []) e

-- with a number behind it, the prefix is a name
pub name_is : (most number : ℕ) (prefix name : List ℕ) → prefix ≡ underscores (suc most) ++ 112 ∷ [] → name ≡ prefix ++ decimal number
    → name ≡ new_name most number
name_is most number prefix name e f = f ∙ (ap (λ xs. xs ++ decimal number) e ∙ append_assoc (underscores (suc most)) (112 ∷ []) (decimal number))
