-- Where a place of a list lies that is put together of two.
use Rattle.std.proofs.Common.{◌≡◌, ◌⊎◌, inl, inr, List, [], ◌∷◌, ◌++◌, refl, sym, ap, ap₂}

-- l ++ r, cut at t, is cut within l or within r
pub cut_within : {A : Type 0} (l r b : List A) (t : A) (a : List A)
    → l ++ r ≡ b ++ t ∷ a → ((c : List A) × (l ≡ b ++ t ∷ c) × (a ≡ c ++ r)) ⊎ ((c : List A) × (b ≡ l ++ c) × (r ≡ c ++ t ∷ a))
cut_within [] r b t a e = inr (b, refl, e)
cut_within (x ∷ l) r [] t a e = inl (l, (let h : x ≡ t = cc in ap (λ z. z ∷ l) h), (cc))
cut_within (x ∷ l) r (y ∷ b) t a e =
    let h : x ≡ y = cc in
    let u : l ++ r ≡ b ++ t ∷ a = cc in
    elim (cut_within l r b t a u) [
      | inl w ↦ inl (w.0, ap₂ (λ p q. p ∷ q) h w.1, w.2)
      | inr w ↦ inr (w.0, ap₂ (λ p q. p ∷ q) (sym h) w.1, w.2)
    ]
