-- The last row, and what an item that is put behind its others makes of the rows.
use Rattle.std.proofs.Common.{◌≡◌, ℕ, zero, suc, ◌+◌, ◌-◌, ◌≤◌, List, [], ◌∷◌, ◌++◌, length, take, drop, set, get_or, slice_range, refl, sym, ap, ap₂, ◌∙◌}
use Rattle.std.proofs.Common.{arith, length-append, length-drop}
use Rattle.std.proofs.lemmas.List.{drop-append-le, take_all, length-map}
use Rattle.cnf_base.specs.RowPieces.{Place, row_pieces, AreTiles, lengthened}
use Rattle.cnf_base.proofs.RowLemmas.{range-append}
use Rattle.cnf_base.proofs.RowTiles.{start_below}

-- the row behind others stands at their number
get_or-behind : {X : Type 0} (before : List X) (x d : X) → get_or (before ++ x ∷ []) (length before) d ≡ x
get_or-behind [] x d = refl
get_or-behind (y ∷ before) x d = get_or-behind before x d

set-behind : {X : Type 0} (before : List X) (x y : X) → set (before ++ x ∷ []) (length before) y ≡ before ++ y ∷ []
set-behind [] x y = refl
set-behind (z ∷ before) x y = ap (λ zs. z ∷ zs) (set-behind before x y)

last_index : {X : Type 0} (before : List X) (x : X) → length (before ++ x ∷ []) - 1 ≡ length before
last_index before x = omega (arith, length-append before (x ∷ []))

-- the last row
pub last_row : {X : Type 0} (before : List (List X)) (row : List X) → get_or (before ++ row ∷ []) (length (before ++ row ∷ []) - 1) [] ≡ row
last_row before row = ap (λ n. get_or (before ++ row ∷ []) n []) (last_index before row) ∙ get_or-behind before row []

-- an item more in the last row
pub lengthened_last : {X : Type 0} (before : List (List X)) (row : List X) (item : X) → lengthened (before ++ row ∷ []) item ≡ before ++ (row ++ item ∷ []) ∷ []
lengthened_last {X} before row item =
    ap₂ (λ n (r : List X). set (before ++ row ∷ []) n (r ++ item ∷ [])) (last_index before row) (last_row before row)
    ∙ set-behind before row (row ++ item ∷ [])

-- the last place, which ends with the list, and one item more
range_grows : {X : Type 0} (xs : List X) (x : X) (from : ℕ) → from ≤ length xs
    → slice_range (xs ++ x ∷ []) from (length xs + 1) ≡ slice_range xs from (length xs) ++ x ∷ []
range_grows xs x from inside =
    ap (take (length xs + 1 - from)) (drop-append-le from xs (x ∷ []) inside)
    ∙ take_all (length xs + 1 - from) (drop from xs ++ x ∷ []) (omega (arith, length-append (drop from xs) (x ∷ []), length-drop from xs))
    ∙ ap (λ ys. ys ++ x ∷ []) (sym (take_all (length xs - from) (drop from xs) (omega (arith, length-drop from xs))))

module _ {X : Type 0} (items : List X) (item : X) (q : Place) (end : ℕ) (grown : end ≡ length items + 1) where
  -- the last place, moved on to the new end
  abbrev longer : Place
  longer = record { from = q.from; to = end }

  pub tiles_grow : (start : ℕ) (places : List Place) (n : ℕ) → suc n ≡ length places → AreTiles start places (length items) → q ≡ get_or places n q
      → AreTiles start (set places n longer) end
  tiles_grow start [] n last tiles is = absurd (omega (arith, last))
  tiles_grow start (p ∷ []) zero last tiles is = (ap (λ r. r.from) is ∙ tiles.0, omega (arith, tiles.1, tiles.2, grown), refl)
  tiles_grow start (p ∷ r ∷ places) zero last tiles is = absurd (omega (arith, last))
  tiles_grow start (p ∷ places) (suc n) last tiles is = (tiles.0, tiles.1, tiles_grow p.to places n (omega (arith, last)) tiles.2 is)

  rows_grow : (start : ℕ) (places : List Place) (n : ℕ) → suc n ≡ length places → AreTiles start places (length items) → q ≡ get_or places n q
      → row_pieces (items ++ item ∷ []) (set places n longer) ≡ set (row_pieces items places) n (get_or (row_pieces items places) n [] ++ item ∷ [])
  rows_grow start [] n last tiles is = absurd (omega (arith, last))
  rows_grow start (p ∷ []) zero last tiles is =
      ap₂ (λ i j. slice_range (items ++ item ∷ []) i j ∷ []) (ap (λ r. r.from) is) grown
      ∙ ap (λ row. row ∷ [])
      (range_grows items item p.from (omega (arith, tiles.0, tiles.1, tiles.2)) ∙ ap (λ j. slice_range items p.from j ++ item ∷ []) (sym tiles.2))
  rows_grow start (p ∷ r ∷ places) zero last tiles is = absurd (omega (arith, last))
  rows_grow start (p ∷ places) (suc n) last tiles is =
      ap₂ ◌∷◌ (range-append items (item ∷ []) p.from p.to (omega (arith, tiles.0, tiles.1)) (start_below p.to places (length items) tiles.2))
      (rows_grow p.to places n (omega (arith, last)) tiles.2 is)

  pub pieces-lengthen : (places : List Place) (last : ℕ) → suc last ≡ length places → AreTiles 0 places (length items) → q ≡ get_or places last q
      → row_pieces (items ++ item ∷ []) (set places last longer) ≡ lengthened (row_pieces items places) item
  pieces-lengthen places last is_last tiles is =
      let index : last ≡ length (row_pieces items places) - 1 = omega (arith, is_last, length-map places (λ s. slice_range items s.from s.to)) in
      rows_grow 0 places last is_last tiles is ∙ ap (λ n. set (row_pieces items places) n (get_or (row_pieces items places) n [] ++ item ∷ [])) index
