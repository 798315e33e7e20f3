-- One literal of a clause is replaced.
use Rattle.std.proofs.Common.{◌≡◌, ℕ, ◌+◌, ◌-◌, ◌<◌, ◌≤◌, ◌⊎◌, inl, inr, List, [], drop, set, length, get_or, slice_range, sym, ap, ap₂, ◌∙◌, subst, arith}
use Rattle.std.proofs.Common.{length-set, length-drop, length-take-le, get_or-set_same, get_or-set_other}
use Rattle.std.specs.List.{swap}
use Rattle.std.proofs.lemmas.Bool.{cases_lt, cases_eq}
use Rattle.std.proofs.lemmas.List.{same_lists, get_or-take, get_or-drop, get_or-map, get_or_default, length-map}
use Rattle.std.proofs.lemmas.List.Edits.{swap_is}
use Rattle.cnf_base.specs.RowPieces.{Place, row_pieces, IsPlace, AreFlat}

module _ {X : Type 0} (xs : List X) (from to : ℕ) (forward : from ≤ to) (inside : to ≤ length xs) where
  pub length_range : length (slice_range xs from to) ≡ to - from
  length_range = length-take-le (to - from) (drop from xs) (omega (arith, length-drop from xs))

  pub range_at : (k : ℕ) (d : X) → k < to - from → get_or (slice_range xs from to) k d ≡ get_or xs (from + k) d
  range_at k d low = get_or-take (to - from) (drop from xs) k d low ∙ get_or-drop from xs k d

module _ {X : Type 0} (xs : List X) (places : List Place) (flat : AreFlat (length xs) places) (p : Place) (n i : ℕ) (x : X) (n_low : n < length places)
    (p_is : p ≡ get_or places n p) (i_low : i < p.to - p.from) where
  pub set_piece : row_pieces (set xs (p.from + i) x) places ≡ set (row_pieces xs places) n (set (slice_range xs p.from p.to) i x)
  set_piece =
      let ys = set xs (p.from + i) x in
      let ylen = length-set xs (p.from + i) x in
      let f : List X → Place → List X = λ zs s. slice_range zs s.from s.to in
      let here = subst (IsPlace (length xs)) (sym p_is) (flat.each n p n_low) in
      same_lists (row_pieces ys places) (set (row_pieces xs places) n (set (slice_range xs p.from p.to) i x))
      (length-map places (f ys) ∙ sym (length-map places (f xs)) ∙ sym (length-set (row_pieces xs places) n (set (slice_range xs p.from p.to) i x)))
      (λ k d below.
      let low : k < length places = omega (arith, below, length-map places (f ys)) in
      let q = get_or places k p in
      let is_q = flat.each k p low in
      get_or-map (f ys) places k p d low ∙ elim (cases_eq k n) [
        | inl same ↦
            let q_is : q ≡ p = ap (λ m. get_or places m p) same ∙ sym p_is in
            ap (f ys) q_is
            ∙ same_lists (f ys p) (set (f xs p) i x)
            (length_range ys p.from p.to here.forward (omega (
              arith,
              here.inside,
            )) ∙ sym (length_range xs p.from p.to here.forward here.inside) ∙ sym (length-set (f xs p) i x))
            (λ j e j_below.
            let j_low : j < p.to - p.from = omega (arith, j_below, length_range ys p.from p.to here.forward (omega (arith, here.inside))) in
            range_at ys p.from p.to here.forward (omega (arith, here.inside)) j e j_low ∙ elim (cases_eq j i) [
              | inl at ↦
                  ap (λ m. get_or ys (p.from + m) e) at ∙ get_or-set_same xs (p.from + i) x e (omega (arith, here.inside, here.forward))
                  ∙ sym (ap (λ m. get_or (set (f xs p) i x) m e) at ∙ get_or-set_same (f xs p) i x e (omega (
                    arith,
                    length_range xs p.from p.to here.forward here.inside,
                  )))
              | inr off ↦
                  get_or-set_other xs (p.from + i) (p.from + j) x e (λ eq. off (omega (arith, eq)))
                  ∙ sym (get_or-set_other (f xs p) i j x e off ∙ range_at xs p.from p.to here.forward here.inside j e j_low)
            ])
            ∙ sym (ap (λ m. get_or (set (row_pieces xs places) n (set (f xs p) i x)) m d) same
            ∙ get_or-set_same (row_pieces xs places) n (set (f xs p) i x) d (omega (arith, length-map places (f xs))))
        | inr other ↦
            let apart : (q.to ≤ p.from) ⊎ (p.to ≤ q.from) = elim (cases_lt k n) [
              | inl lt ↦ inl (subst (λ (r : Place). q.to ≤ r.from) (sym p_is) (flat.ordered k n p lt n_low))
              | inr ge ↦ inr (subst (λ (r : Place). r.to ≤ q.from) (sym p_is) (flat.ordered n k p (omega (arith, other)) low))
            ] in
            same_lists (f ys q) (f xs q)
            (length_range ys q.from q.to is_q.forward (omega (arith, is_q.inside)) ∙ sym (length_range xs q.from q.to is_q.forward is_q.inside))
            (λ j e j_below.
            let j_low : j < q.to - q.from = omega (arith, j_below, length_range ys q.from q.to is_q.forward (omega (arith, is_q.inside))) in
            range_at ys q.from q.to is_q.forward (omega (arith, is_q.inside)) j e j_low
            ∙ get_or-set_other xs (p.from + i) (q.from + j) x e
            (λ eq. elim apart [ inl h ↦ omega (arith, h, eq, j_low, i_low) | inr h ↦ omega (arith, h, eq, j_low, i_low) ])
            ∙ sym (range_at xs q.from q.to is_q.forward is_q.inside j e j_low))
            ∙ sym (get_or-set_other (row_pieces xs places) n k (set (f xs p) i x) d other ∙ get_or-map (f xs) places k p d low)
      ])

-- two literals change places
pub set_set_row : {X : Type 0} (xs : List X) (places : List Place) → AreFlat (length xs) places → (p : Place) (n i j : ℕ) (a b : X) → n < length places
    → p ≡ get_or places n p
    → i < length (get_or (row_pieces xs places) n []) → j < length (get_or (row_pieces xs places) n []) → a ≡ get_or xs (p.from + i) a
    → b ≡ get_or xs (p.from + j) b
    → row_pieces (set (set xs (p.from + i) b) (p.from + j) a) places ≡ set (row_pieces xs places) n (swap (get_or (row_pieces xs places) n []) i j)
set_set_row {X} xs places flat p n i j a b n_low p_is i_low j_low a_is b_is =
    let f : List X → Place → List X = λ zs s. slice_range zs s.from s.to in
    let here = subst (IsPlace (length xs)) (sym p_is) (flat.each n p n_low) in
    let row : get_or (row_pieces xs places) n [] ≡ f xs p = get_or-map (f xs) places n p [] n_low ∙ ap (f xs) (sym p_is) in
    let len = length_range xs p.from p.to here.forward here.inside in
    let i_in : i < p.to - p.from = omega (arith, ap length row, len, i_low) in
    let j_in : j < p.to - p.from = omega (arith, ap length row, len, j_low) in
    let ys = set xs (p.from + i) b in
    let ylen = length-set xs (p.from + i) b in
    let flat_y : AreFlat (length ys) places = subst (λ m. AreFlat m places) (sym ylen) flat in
    let one = set_piece xs places flat p n i b n_low p_is i_in in
    let row_y : f ys p ≡ set (f xs p) i b =
    ap (f ys) p_is ∙ sym (get_or-map (f ys) places n p [] n_low) ∙ ap (λ rs. get_or rs n []) one
    ∙ get_or-set_same (row_pieces xs places) n (set (f xs p) i b) [] (omega (arith, length-map places (f xs))) in
    set_piece ys places flat_y p n j a n_low p_is j_in
    ∙ ap₂ (λ rs r. set rs n (set r j a)) one row_y
    ∙ set_twice (row_pieces xs places) n (set (f xs p) i b) (set (set (f xs p) i b) j a)
    ∙ ap (set (row_pieces xs places) n)
    (ap₂ (λ u v. set (set (f xs p) i u) j v) (b_is ∙ sym (range_at xs p.from p.to here.forward here.inside j b j_in) ∙ get_or_default (f xs p) j b a (omega (
      arith,
      len,
    )))
    (a_is ∙ sym (range_at xs p.from p.to here.forward here.inside i a i_in))
    ∙ swap_is (f xs p) i j a (omega (arith, len)) (omega (arith, len))
    ∙ ap (λ r. swap r i j) (sym row))
  where
    set_twice : {Y : Type 0} (ys : List Y) (k : ℕ) (u v : Y) → set (set ys k u) k v ≡ set ys k v
    set_twice ys k u v =
        same_lists (set (set ys k u) k v) (set ys k v) (length-set (set ys k u) k v ∙ length-set ys k u ∙ sym (length-set ys k v))
        (λ m d low.
        let low_m : m < length ys = omega (arith, low, length-set (set ys k u) k v, length-set ys k u) in
        elim (cases_eq m k) [
          | inl at ↦ ap (λ x. get_or (set (set ys k u) k v) x d) at ∙ get_or-set_same (set ys k u) k v d (omega (arith, length-set ys k u))
              ∙ sym (get_or-set_same ys k v d (omega arith)) ∙ ap (λ x. get_or (set ys k v) x d) (sym at)
          | inr off ↦ get_or-set_other (set ys k u) k m v d off ∙ get_or-set_other ys k m u d off ∙ sym (get_or-set_other ys k m v d off)
        ])
