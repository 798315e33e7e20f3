-- A member of a list that was read, whatever stands for one that is not there.
use Rattle.std.proofs.Common.{◌≡◌, ℕ, zero, suc, ◌<◌, arith, refl, sym, ◌∙◌, List, [], ◌∷◌, length, get_or}

pub same_read : {X : Type 0} (xs : List X) (n : ℕ) (d e : X) → n < length xs → get_or xs n d ≡ get_or xs n e
same_read [] n d e lt = absurd (omega arith)
same_read (x ∷ xs) zero d e lt = refl
same_read (x ∷ xs) (suc n) d e lt = same_read xs n d e (omega arith)

pub read : {X : Type 0} (xs : List X) (n : ℕ) (x d : X) → n < length xs → x ≡ get_or xs n x → get_or xs n d ≡ x
read xs n x d lt e = same_read xs n d x lt ∙ sym e
