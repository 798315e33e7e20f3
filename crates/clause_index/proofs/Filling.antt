-- Lists that are filled from the front.
use Rattle.std.proofs.Common.{◌≡◌, ℕ, ◌+◌, ◌<◌, List, [], ◌∷◌, ◌++◌, length, take, get_or, slice_get, Some, sym, ap, ◌∙◌, append_assoc}
use Rattle.std.proofs.lemmas.List.{take_more}
use Rattle.std.proofs.lemmas.Option.{get_or_from_slice_get}
use Rattle.cnf_base.specs.RowPieces.{lengthened}
use Rattle.cnf_base.proofs.Lengthened.{lengthened_last}

-- a literal more of the clause that is the last one
pub longer : {X : Type 0} (old : List (List X)) (all : List X) (out new : List (List X)) (place : ℕ) (x : X) → place < length all → slice_get all place ≡ Some x
    → out ≡ old ++ take place all ∷ [] → new ≡ lengthened out x → new ≡ old ++ take (place + 1) all ∷ []
longer old all out new place x low at is step =
    step
    ∙ (ap (λ rows. lengthened rows x) is
    ∙ (lengthened_last old (take place all) x
    ∙ ap (λ row. old ++ row ∷ []) (sym (take_more all place x low ∙ ap (λ y. take place all ++ y ∷ []) (get_or_from_slice_get all place x x at)))))

-- a clause more of those that are put behind the old ones
pub next_more : {X : Type 0} (old all out new : List X) (place : ℕ) (x d : X) → place < length all → get_or all place d ≡ x → out ≡ old ++ take place all
    → new ≡ out ++ x ∷ [] → new ≡ old ++ take (place + 1) all
next_more old all out new place x d low at is step =
    step
    ∙ (ap (λ xs. xs ++ x ∷ []) is
    ∙ (append_assoc old (take place all) (x ∷ [])
    ∙ ap (λ xs. old ++ xs) (sym (take_more all place d low ∙ ap (λ y. take place all ++ y ∷ []) at))))
