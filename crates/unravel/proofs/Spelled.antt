-- A list that is filled from the front, element by element.
use Rattle.std.proofs.Common.{◌≡◌, ℕ, ◌+◌, ◌<◌, List, [], ◌∷◌, ◌++◌, length, take, slice_get, Some, sym, ap, ◌∙◌}
use Rattle.std.proofs.lemmas.List.{take_more}
use Rattle.std.proofs.lemmas.Option.{get_or_from_slice_get}

pub one_longer : {X : Type 0} (all out new : List X) (place : ℕ) (x : X) → place < length all → slice_get all place ≡ Some x → out ≡ take place all
    → new ≡ out ++ x ∷ [] → new ≡ take (place + 1) all
one_longer all out new place x low at is step =
    step ∙ (ap (λ xs. xs ++ x ∷ []) is ∙ sym (take_more all place x low ∙ ap (λ y. take place all ++ y ∷ []) (get_or_from_slice_get all place x x at)))
