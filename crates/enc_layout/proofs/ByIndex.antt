-- Lists that are put together over the members of a list, and over their places.
use Rattle.std.proofs.Common.{◌≡◌, ℕ, zero, suc, ◌<◌, refl, arith, ap, ap₂, sym, ◌∙◌, List, [], ◌∷◌, ◌++◌, length, get_or, flat_map, append_assoc}
use Rattle.std.proofs.lemmas.List.{append-nil}
use Rattle.enc_layout.specs.Letters.{below}

module _ {Y : Type 0} where
  pub below_same : (n : ℕ) (g h : ℕ → List Y) → ((k : ℕ) → k < n → g k ≡ h k) → below n g ≡ below n h
  below_same zero g h e = refl
  below_same (suc n) g h e = ap₂ ◌++◌ (below_same n g h (λ k lt. e k (omega arith))) (e n (omega arith))

  below_front : (n : ℕ) (g : ℕ → List Y) → below (suc n) g ≡ g 0 ++ below n (λ k. g (suc k))
  below_front zero g = sym (append-nil (g 0))
  below_front (suc n) g = ap (λ z. z ++ g (suc n)) (below_front n g) ∙ append_assoc (g 0) (below n (λ k. g (suc k))) (g (suc n))

pub flat_map_below : {X Y : Type 0} (g : X → List Y) (xs : List X) (d : X) → flat_map g xs ≡ below (length xs) (λ k. g (get_or xs k d))
flat_map_below g [] d = refl
flat_map_below g (x ∷ xs) d = ap (λ z. g x ++ z) (flat_map_below g xs d) ∙ sym (below_front (length xs) (λ k. g (get_or (x ∷ xs) k d)))
