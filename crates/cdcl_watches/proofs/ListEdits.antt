-- A list inside a list of lists.
use Rattle.std.proofs.Common.{◌≡◌, ◌≢◌, ℕ, ◌<◌, List, map, set, length, get_or, sym, ap, ◌∙◌, arith, get_or-set_same, get_or-set_other, []}
use Rattle.std.proofs.lemmas.List.{map-set, get_or-map, length-map}

module _ {V Y : Type 0} (f : V → List Y) (vs : List V) (i : ℕ) where
  -- it is read again
  pub row_edited : (g : List Y → List Y) (v w : V) → i < length vs → w ≡ get_or vs i w → f v ≡ g (f w)
      → get_or (map f (set vs i v)) i [] ≡ g (get_or (map f vs) i [])
  row_edited g v w low at is =
      ap (λ ys. get_or ys i []) (map-set f vs i v) ∙ get_or-set_same (map f vs) i (f v) [] (omega (arith, low, length-map vs f))
      ∙ is ∙ ap g (ap f at ∙ sym (get_or-map f vs i w [] low))

  -- and another
  pub row_other : (j : ℕ) (v : V) → j ≢ i → get_or (map f (set vs i v)) j [] ≡ get_or (map f vs) j []
  row_other j v off = ap (λ ys. get_or ys j []) (map-set f vs i v) ∙ get_or-set_other (map f vs) i j (f v) [] off
