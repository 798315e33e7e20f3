-- Places that tile the list of items.
use Rattle.std.proofs.Common.{◌≡◌, ℕ, zero, suc, ◌<◌, ◌≤◌, List, [], ◌∷◌, ◌++◌, length, take, get_or, All, AllPairs, slice_range, refl, sym, subst, ◌∙◌, arith}
use Rattle.std.proofs.lemmas.List.{length-map}
use Rattle.std.proofs.lemmas.List.Elements.{All-nil, All-cons}
use Rattle.cnf_base.specs.RowPieces.{Place, row_pieces, AreTiles, IsPlace, AreFlat}

-- the end is not before the start
pub start_below : (start : ℕ) (places : List Place) (end : ℕ) → AreTiles start places end → start ≤ end
start_below start [] end tiles = omega (arith, tiles)
start_below start (p ∷ places) end tiles = omega (arith, tiles.1, start_below p.to places end tiles.2)

-- each place begins at the start or behind it
all_behind : (start : ℕ) (places : List Place) (end : ℕ) → AreTiles start places end → All (λ p. start ≤ p.from) places
all_behind start [] end tiles = All-nil (λ p. start ≤ p.from)
all_behind start (p ∷ places) end tiles =
    All-cons (λ q. start ≤ q.from) p places (omega (arith, tiles.0)) (λ k d below. omega (arith, tiles.1, all_behind p.to places end tiles.2 k d below))

-- tiles lie within the list, one behind the other
pub flat_tiles : (start : ℕ) (places : List Place) (end : ℕ) → AreTiles start places end → AreFlat end places
flat_tiles start [] end tiles = record { each = All-nil (IsPlace end); ordered = λ i j e earlier below. absurd (omega (arith, below)) }
flat_tiles start (p ∷ places) end tiles =
    let rest = flat_tiles p.to places end tiles.2 in
    let here : IsPlace end p = record { forward = omega (arith, tiles.0, tiles.1); inside = start_below p.to places end tiles.2 } in
    record { each = All-cons (IsPlace end) p places here rest.each; ordered = pairs rest.ordered }
  where
    pairs : AllPairs (λ s t. s.to ≤ t.from) places → AllPairs (λ s t. s.to ≤ t.from) (p ∷ places)
    pairs rest zero zero e earlier below = absurd (omega (arith, earlier))
    pairs rest zero (suc j) e earlier below = all_behind p.to places end tiles.2 j e (omega (arith, below))
    pairs rest (suc i) zero e earlier below = absurd (omega (arith, earlier))
    pairs rest (suc i) (suc j) e earlier below = rest i j e (omega (arith, earlier)) (omega (arith, below))

-- a place that begins at the end is put behind the others
pub tiles-push : (start : ℕ) (places : List Place) (end : ℕ) (p : Place) → AreTiles start places end
    → p.from ≡ end → end ≤ p.to → AreTiles start (places ++ p ∷ []) p.to
tiles-push start [] end p tiles from forward = (from ∙ sym tiles, omega (arith, tiles, forward), refl)
tiles-push start (q ∷ places) end p tiles from forward = (tiles.0, tiles.1, tiles-push q.to places end p tiles.2 from forward)

-- the first n places end where the next begins
pub tiles-take : (start : ℕ) (places : List Place) (end n : ℕ) (d : Place) → AreTiles start places end → n < length places
    → AreTiles start (take n places) (get_or places n d).from
tiles-take start [] end n d tiles below = absurd (omega (arith, below))
tiles-take start (p ∷ places) end zero d tiles below = sym tiles.0
tiles-take start (p ∷ places) end (suc n) d tiles below = (tiles.0, tiles.1, tiles-take p.to places end n d tiles.2 (omega (arith, below)))

-- the place of a row lies within the list
pub place_at : {X : Type 0} (items : List X) (places : List Place) (index : ℕ) (p : Place) → AreTiles 0 places (length items)
    → index < length (row_pieces items places) → p ≡ get_or places index p
    → IsPlace (length items) p
place_at items places index p tiles low is =
    let below : index < length places = omega (arith, low, length-map places (λ s. slice_range items s.from s.to)) in
    subst (IsPlace (length items)) (sym is) ((flat_tiles 0 places (length items) tiles).each index p below)
