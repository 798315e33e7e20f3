-- Loops over a list, each turn of which adds a piece.
use Rattle.std.proofs.Common.{◌≡◌, ℕ, ◌+◌, ◌<◌, List, ◌∷◌, ◌++◌, length, get_or, drop, ap, ap₂, sym, ◌∙◌, append_assoc, add-one, drop-cons}

-- what is to come begins with the piece of this turn
pub one_more : {X Y : Type 0} (to_come : List X → List Y) (xs : List X) (i : ℕ) (x : X) (piece rest whole text new : List Y) → i < length xs → x ≡ get_or xs i x
    → to_come (x ∷ drop (i + 1) xs) ≡ piece ++ rest → text ++ to_come (drop i xs) ≡ whole → new ≡ text ++ piece → new ++ rest ≡ whole
one_more to_come xs i x piece rest whole text new lt at splits before put =
    let split : drop i xs ≡ x ∷ drop (i + 1) xs = drop-cons xs i x lt ∙ ap₂ (λ y n. y ∷ drop n xs) (sym at) (sym (add-one i)) in
    ap (λ t. t ++ rest) put ∙ (append_assoc text piece rest ∙ (ap (λ t. text ++ t) (sym splits) ∙ (ap (λ ys. text ++ to_come ys) (sym split) ∙ before)))

-- the same of a list whose elements are copied
pub copied_more : {X Y : Type 0} (to_come : List X → List Y) (xs : List X) (i : ℕ) (d : X) (piece rest whole text new : List Y) → i < length xs
    → to_come (get_or xs i d ∷ drop (i + 1) xs) ≡ piece ++ rest → text ++ to_come (drop i xs) ≡ whole → new ≡ text ++ piece → new ++ rest ≡ whole
copied_more to_come xs i d piece rest whole text new lt splits begun put =
    let split : drop i xs ≡ get_or xs i d ∷ drop (i + 1) xs = drop-cons xs i d lt ∙ ap (λ n. get_or xs i d ∷ drop n xs) (sym (add-one i)) in
    ap (λ t. t ++ rest) put ∙ (append_assoc text piece rest ∙ (ap (λ t. text ++ t) (sym splits) ∙ (ap (λ ys. text ++ to_come ys) (sym split) ∙ begun)))
