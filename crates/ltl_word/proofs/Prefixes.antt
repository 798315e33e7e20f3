-- A list that a loop builds: its members stand for those of a front of the list that the loop walks.
use Rattle.std.proofs.Common.{◌≡◌, ℕ, ◌+◌, ◌<◌, List, [], ◌∷◌, ◌++◌, length, get_or, take, map, ap, ap₂, ◌∙◌, sym}
use Rattle.std.proofs.lemmas.List.{take_more, map-append}

-- one member more on both sides
pub map_more : {X Y Z : Type 0} (f : X → Z) (g : Y → Z) (done more : List X) (x : X) (ys : List Y) (i : ℕ) (d : Y) → map f done ≡ map g (take i ys)
    → more ≡ done ++ x ∷ [] → i < length ys → f x ≡ g (get_or ys i d)
    → map f more ≡ map g (take (i + 1) ys)
map_more f g done more x ys i d so_far is lt one =
    ap (map f) is ∙ (map-append f done (x ∷ [])
    ∙ (ap₂ (λ us u. us ++ u ∷ []) so_far one ∙ (sym (map-append g (take i ys) (get_or ys i d ∷ [])) ∙ ap (map g) (sym (take_more ys i d lt)))))
