-- The places of rows from where they end.
use Rattle.std.proofs.Common.{◌≡◌, ℕ, zero, suc, ◌+◌, ◌<◌, ◌≤◌, List, [], ◌∷◌, ◌++◌, length, take, set, get_or, All, slice_range, refl, sym, ap, subst, ◌∙◌}
use Rattle.std.proofs.Common.{arith, length-take-le}
use Rattle.std.proofs.lemmas.List.{length-map, get_or-map}
use Rattle.cnf_base.specs.RowPieces.{Place, row_pieces, places_of, start_of, AreTiles, IsPlace, lengthened}
use Rattle.cnf_base.proofs.RowTiles.{flat_tiles, tiles-push, tiles-take}
use Rattle.cnf_base.proofs.RowLemmas.{pieces-push, pieces-take, spans_before}
use Rattle.cnf_base.proofs.Lengthened.{tiles_grow, pieces-lengthen}

pub length_places : (start : ℕ) (ends : List ℕ) → length (places_of start ends) ≡ length ends
length_places start [] = refl
length_places start (end ∷ ends) = ap suc (length_places end ends)

-- the row after the first begins as the first of the others does
start_next : (start end : ℕ) (ends : List ℕ) (n : ℕ) → start_of start (end ∷ ends) (suc n) ≡ start_of end ends n
start_next start end ends zero = refl
start_next start end ends (suc n) = refl

pub place_of_row : (start : ℕ) (ends : List ℕ) (n : ℕ) (d : Place) → n < length ends
    → get_or (places_of start ends) n d ≡ record { from = start_of start ends n; to = get_or ends n 0 }
place_of_row start [] n d low = absurd (omega (arith, low))
place_of_row start (end ∷ ends) zero d low = refl
place_of_row start (end ∷ ends) (suc n) d low =
    place_of_row end ends n d (omega (arith, low)) ∙ ap (λ (s : ℕ). record { from = s; to = get_or ends n 0 }) (sym (start_next start end ends n))

-- behind the last row stands what the list of items ends with
pub tiles_end : (start : ℕ) (ends : List ℕ) (count : ℕ) → AreTiles start (places_of start ends) count → start_of start ends (length ends) ≡ count
tiles_end start [] count tiles = tiles
tiles_end start (end ∷ ends) count tiles = start_next start end ends (length ends) ∙ tiles_end end ends count tiles.2

pub places-push : (start : ℕ) (ends : List ℕ) (end : ℕ)
    → places_of start (ends ++ end ∷ []) ≡ places_of start ends ++ record { from = start_of start ends (length ends); to = end } ∷ []
places-push start [] end = refl
places-push start (x ∷ ends) end =
    ap (λ (places : List Place). record { from = start; to = x } ∷ places)
    (places-push x ends end ∙ ap (λ (s : ℕ). places_of x ends ++ record { from = s; to = end } ∷ []) (sym (start_next start x ends (length ends))))

-- the last row ends elsewhere
pub places-set : (start : ℕ) (ends : List ℕ) (last end : ℕ) → suc last ≡ length ends
    → places_of start (set ends last end) ≡ set (places_of start ends) last record { from = start_of start ends last; to = end }
places-set start [] last end is = absurd (omega (arith, is))
places-set start (x ∷ []) zero end is = refl
places-set start (x ∷ y ∷ ends) zero end is = absurd (omega (arith, is))
places-set start (x ∷ ends) (suc last) end is =
    ap (λ (places : List Place). record { from = start; to = x } ∷ places)
    (places-set x ends last end (omega (
      arith,
      is,
    )) ∙ ap (λ (s : ℕ). set (places_of x ends) last record { from = s; to = end }) (sym (start_next start x ends last)))

pub places-take : (start : ℕ) (ends : List ℕ) (n : ℕ) → places_of start (take n ends) ≡ take n (places_of start ends)
places-take start [] zero = refl
places-take start [] (suc n) = refl
places-take start (end ∷ ends) zero = refl
places-take start (end ∷ ends) (suc n) = ap (λ (places : List Place). record { from = start; to = end } ∷ places) (places-take end ends n)

pub rows_len : {X : Type 0} (items : List X) (ends : List ℕ) → length (row_pieces items (places_of 0 ends)) ≡ length ends
rows_len items ends = length-map (places_of 0 ends) (λ s. slice_range items s.from s.to) ∙ length_places 0 ends

module _ {X : Type 0} (items : List X) (ends : List ℕ) (tiles : AreTiles 0 (places_of 0 ends) (length items)) where
  -- the row of this index, which begins at its start
  module _ (n : ℕ) (low : n < length ends) where
    abbrev here : Place
    here = record { from = start_of 0 ends n; to = get_or ends n 0 }

    in_places : n < length (places_of 0 ends)
    in_places = omega (arith, low, length_places 0 ends)

    pub is_place : IsPlace (length items) here
    is_place = subst (IsPlace (length items)) (place_of_row 0 ends n here low) ((flat_tiles 0 (places_of 0 ends) (length items) tiles).each n here in_places)

    pub row_is : get_or (row_pieces items (places_of 0 ends)) n [] ≡ slice_range items (start_of 0 ends n) (get_or ends n 0)
    row_is =
        get_or-map (λ s. slice_range items s.from s.to) (places_of 0 ends) n here [] in_places
        ∙ ap (λ (s : Place). slice_range items s.from s.to) (place_of_row 0 ends n here low)

    -- what is left in front of that row
    pub tiles_front : AreTiles 0 (places_of 0 (take n ends)) (length (take (start_of 0 ends n) items))
    tiles_front =
        let inside : start_of 0 ends n ≤ length items = omega (arith, is_place.forward, is_place.inside) in
        subst (λ (places : List Place). AreTiles 0 places (length (take (start_of 0 ends n) items))) (sym (places-take 0 ends n))
        (subst (AreTiles 0 (take n (places_of 0 ends)))
        (ap (λ (s : Place). s.from) (place_of_row 0 ends n here low) ∙ sym (length-take-le (start_of 0 ends n) items inside))
        (tiles-take 0 (places_of 0 ends) (length items) n here tiles in_places))

    pub rows_front : row_pieces (take (start_of 0 ends n) items) (places_of 0 (take n ends)) ≡ take n (row_pieces items (places_of 0 ends))
    rows_front =
        let flat = flat_tiles 0 (places_of 0 ends) (length items) tiles in
        ap (λ (places : List Place). row_pieces (take (start_of 0 ends n) items) places) (places-take 0 ends n)
        ∙ pieces-take items (places_of 0 ends) n (start_of 0 ends n) flat
        (subst (λ (s : Place). All (λ t. t.to ≤ s.from) (take n (places_of 0 ends))) (place_of_row 0 ends n here low)
        (spans_before items (places_of 0 ends) n here flat in_places))

  -- a row more
  module _ (row : List X) (end : ℕ) (is : end ≡ length items + length row) where
    pub tiles_more : AreTiles 0 (places_of 0 (ends ++ end ∷ [])) end
    tiles_more =
        subst (λ (places : List Place). AreTiles 0 places end) (sym (places-push 0 ends end))
        (tiles-push 0 (places_of 0 ends) (length items) record {
          from = start_of 0 ends (length ends);
          to = end;
        } tiles (tiles_end 0 ends (length items) tiles) (omega (arith, is)))

    pub rows_more : row_pieces (items ++ row) (places_of 0 (ends ++ end ∷ [])) ≡ row_pieces items (places_of 0 ends) ++ row ∷ []
    rows_more =
        ap (λ (places : List Place). row_pieces (items ++ row) places) (places-push 0 ends end)
        ∙ pieces-push items row (places_of 0 ends) record { from = start_of 0 ends (length ends); to = end }
        (flat_tiles 0 (places_of 0 ends) (length items) tiles)
        (tiles_end 0 ends (length items) tiles) is

  -- an item more in the last row
  module _ (item : X) (last end : ℕ) (is_last : suc last ≡ length ends) (is : end ≡ length items + 1) where
    abbrev old : Place
    old = record { from = start_of 0 ends last; to = get_or ends last 0 }

    stands : old ≡ get_or (places_of 0 ends) last old
    stands = sym (place_of_row 0 ends last old (omega (arith, is_last)))

    is_last_place : suc last ≡ length (places_of 0 ends)
    is_last_place = is_last ∙ sym (length_places 0 ends)

    pub tiles_longer : AreTiles 0 (places_of 0 (set ends last end)) end
    tiles_longer =
        subst (λ (places : List Place). AreTiles 0 places end) (sym (places-set 0 ends last end is_last))
        (tiles_grow items item old end is 0 (places_of 0 ends) last is_last_place tiles stands)

    pub rows_longer : row_pieces (items ++ item ∷ []) (places_of 0 (set ends last end)) ≡ lengthened (row_pieces items (places_of 0 ends)) item
    rows_longer =
        ap (λ (places : List Place). row_pieces (items ++ item ∷ []) places) (places-set 0 ends last end is_last)
        ∙ pieces-lengthen items item old end is (places_of 0 ends) last is_last_place tiles stands
