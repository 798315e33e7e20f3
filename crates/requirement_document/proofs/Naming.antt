-- The set of the names that are taken.
use Rattle.std.proofs.Common.{◌≡◌, ℕ, false, ◌||◌, List, ◌∷◌, ◌++◌, map, refl, ap, ◌∙◌, []}
use Rattle.std.specs.List.{list_any}
use Rattle.std.specs.Str.{bytes_eq}
use Rattle.std.proofs.lemmas.List.{map-append}
use Rattle.indexmap.specs.IndexSet.{insert_key}

module _ {X : Type 0} (bytes : X → List ℕ) where
  -- a name is among the keys where it is among their bytes
  pub any_name : (text : List ℕ) (keys : List X) → list_any (λ k. bytes_eq text (bytes k)) keys ≡ list_any (bytes_eq text) (map bytes keys)
  any_name text [] = refl
  any_name text (k ∷ keys) = ap (λ b. bytes_eq text (bytes k) || b) (any_name text keys)

  -- a new name goes last
  pub name_more : (keys : List X) (name : X) (text : List ℕ) → bytes name ≡ text → list_any (bytes_eq text) (map bytes keys) ≡ false
      → map bytes (insert_key (λ a b. bytes_eq (bytes a) (bytes b)) keys name) ≡ map bytes keys ++ text ∷ []
  name_more keys name text e h =
      let none : list_any (λ k. bytes_eq (bytes name) (bytes k)) keys ≡ false = rw e (any_name text keys ∙ h) in
      rw none (map-append bytes keys (name ∷ []) ∙ ap (λ t. map bytes keys ++ t ∷ []) e)
