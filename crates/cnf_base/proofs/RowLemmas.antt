-- What an edit of the list of items does to the rows.
use Rattle.std.proofs.Common.{◌≡◌, ℕ, ◌+◌, ◌-◌, ◌<◌, ◌≤◌, List, [], ◌∷◌, ◌++◌, length, take, drop, get_or, All, slice_range, refl, sym, ap, ap₂, ◌∙◌, arith}
use Rattle.std.proofs.Common.{length-drop, length-take}
use Rattle.std.proofs.lemmas.List.{map-append, take-map, take-append-le, drop-append-le, take-take, drop-take, take_all, drop_at, get_or-take, get_or_default}
use Rattle.std.proofs.lemmas.List.Elements.{All-head, All-tail, All-take}
use Rattle.cnf_base.specs.RowPieces.{Place, row_pieces, IsPlace, AreFlat}

-- two lists with the same items at each place have the same rows
pieces_same : {X : Type 0} (xs ys : List X) (spans : List Place) → All (λ s. slice_range xs s.from s.to ≡ slice_range ys s.from s.to) spans
    → row_pieces xs spans ≡ row_pieces ys spans
pieces_same xs ys [] same = refl
pieces_same xs ys (s ∷ spans) same =
    let P : Place → Type 0 = λ s. slice_range xs s.from s.to ≡ slice_range ys s.from s.to in
    ap₂ ◌∷◌ (All-head P s spans same) (pieces_same xs ys spans (All-tail P s spans same))

pub range-append : {X : Type 0} (xs ys : List X) (from to : ℕ) → from ≤ to → to ≤ length xs → slice_range (xs ++ ys) from to ≡ slice_range xs from to
range-append xs ys from to forward inside =
    ap (take (to - from)) (drop-append-le from xs ys (omega arith))
    ∙ take-append-le (to - from) (drop from xs) ys (simp length-drop (omega arith))

range-take : {X : Type 0} (xs : List X) (n from to : ℕ) → from ≤ to → to ≤ n → slice_range (take n xs) from to ≡ slice_range xs from to
range-take xs n from to forward inside =
    let split : n ≡ from + (n - from) = omega arith in
    ap (λ k. take (to - from) (drop from (take k xs))) split
    ∙ ap (take (to - from)) (drop-take from (n - from) xs)
    ∙ take-take (to - from) (n - from) (drop from xs) (omega arith)

range_last : {X : Type 0} (xs ys : List X) (from to : ℕ) → from ≡ length xs → to ≡ length xs + length ys → slice_range (xs ++ ys) from to ≡ ys
range_last xs ys from to is_from is_to =
    ap (take (to - from)) (drop_at xs ys from (sym is_from)) ∙ take_all (to - from) ys (omega arith)

-- a row and its place are put behind the others
pub pieces-push : {X : Type 0} (xs ys : List X) (spans : List Place) (span : Place) → AreFlat (length xs) spans → span.from ≡ length xs
    → span.to ≡ length xs + length ys
    → row_pieces (xs ++ ys) (spans ++ span ∷ []) ≡ row_pieces xs spans ++ ys ∷ []
pieces-push {X} xs ys spans span flat is_from is_to =
    map-append (λ s. slice_range (xs ++ ys) s.from s.to) spans (span ∷ [])
    ∙ ap₂ (λ (a : List (List X)) (b : List X). a ++ b ∷ [])
    (pieces_same (xs ++ ys) xs spans (λ k d in_list. range-append xs ys _ _ (flat.each k d in_list).forward (flat.each k d in_list).inside))
    (range_last xs ys span.from span.to is_from is_to)

-- the first n places and the items before the next
pub pieces-take : {X : Type 0} (xs : List X) (spans : List Place) (n end : ℕ) → AreFlat (length xs) spans → All (λ s. s.to ≤ end) (take n spans)
    → row_pieces (take end xs) (take n spans) ≡ take n (row_pieces xs spans)
pieces-take xs spans n end flat before =
    pieces_same (take end xs) xs (take n spans)
    (λ k d in_list. range-take xs end _ _ (All-take (IsPlace (length xs)) n spans flat.each k d in_list).forward (before k d in_list))
    ∙ sym (take-map (λ s. slice_range xs s.from s.to) n spans)

-- the places before the n-th end before it begins
pub spans_before : {X : Type 0} (xs : List X) (spans : List Place) (n : ℕ) (d : Place) → AreFlat (length xs) spans → n < length spans
    → All (λ s. s.to ≤ (get_or spans n d).from) (take n spans)
spans_before xs spans n d flat in_list k e below =
    let low : k < n = omega (arith, length-take n spans) in
    rw (get_or-take n spans k e low, get_or_default spans n d e in_list) (flat.ordered k n e low in_list)
