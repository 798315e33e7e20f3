-- Where two letters begin to differ.
use Rattle.std.proofs.Common.{◌≡◌, ℕ, zero, suc, ◌≤◌, min, Bool, false, List, [], ◌∷◌, length, drop, refl, arith}
use Rattle.requirement_report.specs.Slips.{differ_inside}

none_alone : (inside : Bool) (xs : List ℕ) → differ_inside inside xs [] ≡ false
none_alone inside [] = refl
none_alone inside (x ∷ xs) = refl

-- nothing differs behind the shorter one
pub none_behind : (inside : Bool) (xs ys : List ℕ) (n : ℕ) → min (length xs) (length ys) ≤ n → differ_inside inside (drop n xs) (drop n ys) ≡ false
none_behind inside [] ys zero h = refl
none_behind inside [] ys (suc n) h = refl
none_behind inside (x ∷ xs) [] zero h = refl
none_behind inside (x ∷ xs) [] (suc n) h = none_alone inside (drop n xs)
none_behind inside (x ∷ xs) (y ∷ ys) zero h = absurd (omega (arith, h))
none_behind inside (x ∷ xs) (y ∷ ys) (suc n) h = none_behind inside xs ys n (omega (arith, h))
