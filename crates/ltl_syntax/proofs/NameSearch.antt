-- What a look-up among the keys says about the names, which are the bytes of the keys.
use Rattle.std.proofs.Common.{◌≡◌, ◌≢◌, ℕ, zero, suc, ◌<◌, Bool, true, false, ◌||◌, List, [], ◌∷◌, ◌++◌, length, map, get_or, Some, position, refl, sym, ◌∙◌}
use Rattle.std.proofs.Common.{ap, arith, true≢false}
use Rattle.std.specs.List.{list_any}
use Rattle.std.specs.Str.{bytes_eq}
use Rattle.std.proofs.lemmas.Slice.Eq.{bytes_eq-Decides}
use Rattle.std.proofs.lemmas.List.{get_or-map, length-map, map-append}
use Rattle.std.proofs.lemmas.List.Quantifiers.{position-Some}
use Rattle.indexmap.specs.IndexSet.{insert_key}

module _ {X : Type 0} (bytes : X → List ℕ) (text : List ℕ) where
  -- a key that is found has the text
  pub name_found : (keys : List X) (i : ℕ) → position (λ k. bytes_eq text (bytes k)) keys ≡ Some i
      → (i < length (map bytes keys)) × (get_or (map bytes keys) i [] ≡ text)
  name_found [] i h = absurd (cc)
  name_found (x ∷ keys) i h =
      let at = position-Some (λ k. bytes_eq text (bytes k)) (x ∷ keys) i x h in
      (rw length-map at.0, get_or-map bytes (x ∷ keys) i x [] at.0 ∙ sym ((bytes_eq-Decides text (bytes (get_or (x ∷ keys) i x))).0 at.1))

  -- where no key is found, no name is the text
  pub name_missing : (keys : List X) → list_any (λ k. bytes_eq text (bytes k)) keys ≡ false → (i : ℕ) → i < length (map bytes keys)
      → get_or (map bytes keys) i [] ≢ text
  name_missing [] h i lt e = absurd (omega arith)
  name_missing (x ∷ keys) h zero lt e = true≢false (sym ((bytes_eq-Decides text (bytes x)).1 (sym e)) ∙ front (bytes_eq text (bytes x)) _ h) where
    front : (a b : Bool) → (a || b) ≡ false → a ≡ false
    front false b h = refl
    front true b h = h
  name_missing (x ∷ keys) h (suc i) lt e = name_missing keys (rest (bytes_eq text (bytes x)) _ h) i (omega arith) e where
    rest : (a b : Bool) → (a || b) ≡ false → b ≡ false
    rest false b h = h
    rest true b h = absurd (true≢false h)

  -- and a key that is inserted then goes last
  pub name_inserted : (keys : List X) (name : X) → bytes name ≡ text → list_any (λ k. bytes_eq text (bytes k)) keys ≡ false
      → map bytes (insert_key (λ a b. bytes_eq (bytes a) (bytes b)) keys name) ≡ map bytes keys ++ text ∷ []
  name_inserted keys name e h =
      let none : list_any (λ k. bytes_eq (bytes name) (bytes k)) keys ≡ false = rw e h in
      rw none (map-append bytes keys (name ∷ []) ∙ ap (λ t. map bytes keys ++ t ∷ []) e)
