-- A list with a gap in it: what stands behind the gap, and how the gap moves on and grows.
use Rattle.std.proofs.Common.{◌≡◌, ◌≢◌, ℕ, ◌<◌, ◌≤◌, ◌+◌, ◌-◌, List, [], ◌∷◌, ◌++◌, set, take, drop, length, get_or, sym, ap, ap₂, ◌∙◌, arith, append_assoc}
use Rattle.std.proofs.Common.{get_or-set_same, get_or-set_other}
use Rattle.std.specs.List.{remove, remove_range}
use Rattle.std.proofs.lemmas.List.{length-append, length-drop, take-append-drop, get_or-drop, get_or-append_right, length-take-le}
use Rattle.std.proofs.lemmas.List.{set-append_right, drop-set-lt, take_more_set, drop_more, drop-drop, set-set, set_comm, set-get_or}
use Rattle.std.proofs.lemmas.List.Edits.{remove-append_right}

module _ {X : Type 0} (xs : List X) (a b : ℕ) (order : a ≤ b) (inside : b ≤ length xs) where
  front_length : length (take a xs) ≡ a
  front_length = length-take-le a xs (omega arith)

  pub gap_length : length (remove_range xs a b) + (b - a) ≡ length xs
  gap_length = omega (arith, length-append (take a xs) (drop b xs), front_length, length-drop b xs, inside, order)

  -- the first behind the gap
  pub read_behind : (d : X) → get_or (remove_range xs a b) a d ≡ get_or xs b d
  read_behind d =
      let none : b + (a - a) ≡ b = omega arith in
      get_or-append_right (take a xs) (drop b xs) a a d front_length (omega arith) ∙ get_or-drop b xs (a - a) d ∙ ap (λ n. get_or xs n d) none

  -- another goes before the gap in place of the first behind it
  pub gap_put : (v : X) → b < length xs → remove_range (set xs a v) (a + 1) (b + 1) ≡ set (remove_range xs a b) a v
  gap_put v low =
      let none : a - a ≡ 0 = omega arith in
      ap₂ ◌++◌ (take_more_set xs a v (omega arith)) (drop-set-lt (b + 1) xs a v (omega arith)) ∙ append_assoc (take a xs) (v ∷ []) (drop (b + 1) xs)
      ∙ sym (set-append_right (take a xs) (drop b xs) a a v front_length (omega arith) ∙ ap (λ n. take a xs ++ set (drop b xs) n v) none
      ∙ ap (λ ys. take a xs ++ set ys 0 v) (drop_more xs b v low))

  -- the first behind the gap is taken off
  pub gap_grown : remove_range xs a (b + 1) ≡ remove (remove_range xs a b) a
  gap_grown =
      let none : a - a ≡ 0 = omega arith in
      sym (remove-append_right (take a xs) (drop b xs) a a front_length (omega arith) ∙ ap (λ n. take a xs ++ remove (drop b xs) n) none
      ∙ ap (λ ys. take a xs ++ ys) (drop-drop 1 b xs))

-- a gap of no place
pub no_gap : {X : Type 0} (xs : List X) (a : ℕ) → remove_range xs a a ≡ xs
no_gap xs a = take-append-drop a xs

-- lists of which one has a gap
module _ {X : Type 0} (lists : List (List X)) (k a b : ℕ) (known : k < length lists) (order : a ≤ b) (inside : b ≤ length (get_or lists k [])) where
  closed : List (List X)
  closed = set lists k (remove_range (get_or lists k []) a b)

  pub closed_at : get_or (set lists k (remove_range (get_or lists k []) a b)) k [] ≡ remove_range (get_or lists k []) a b
  closed_at = get_or-set_same lists k (remove_range (get_or lists k []) a b) [] known

  pub closed_put : (v : X) → b < length (get_or lists k [])
      → set (set lists k (set (get_or lists k []) a v)) k (remove_range (get_or (set lists k (set (get_or lists k []) a v)) k []) (a + 1) (b + 1))
      ≡ set (set lists k (remove_range (get_or lists k []) a b)) k (set (get_or (set lists k (remove_range (get_or lists k []) a b)) k []) a v)
  closed_put v low =
      let row = get_or lists k [] in
      set-set lists k (set row a v) (remove_range (get_or (set lists k (set row a v)) k []) (a + 1) (b + 1))
      ∙ ap (λ ys. set lists k (remove_range ys (a + 1) (b + 1))) (get_or-set_same lists k (set row a v) [] known)
      ∙ ap (set lists k) (gap_put row a b order inside v low ∙ ap (λ ys. set ys a v) (sym closed_at))
      ∙ sym (set-set lists k (remove_range row a b) (set (get_or (set lists k (remove_range row a b)) k []) a v))

  pub closed_grown : set lists k (remove_range (get_or lists k []) a (b + 1))
      ≡ set (set lists k (remove_range (get_or lists k []) a b)) k (remove (get_or (set lists k (remove_range (get_or lists k []) a b)) k []) a)
  closed_grown =
      let row = get_or lists k [] in
      ap (set lists k) (gap_grown row a b order inside ∙ ap (λ ys. remove ys a) (sym closed_at))
      ∙ sym (set-set lists k (remove_range row a b) (remove (get_or (set lists k (remove_range row a b)) k []) a))

  pub closed_push : (j : ℕ) (w : X) → j ≢ k
      → set (set lists j (get_or lists j [] ++ w ∷ [])) k (remove_range (get_or (set lists j (get_or lists j [] ++ w ∷ [])) k []) a b)
      ≡ set (set lists k (remove_range (get_or lists k []) a b)) j (get_or (set lists k (remove_range (get_or lists k []) a b)) j [] ++ w ∷ [])
  closed_push j w other =
      let row = get_or lists k [] in
      let more = get_or lists j [] ++ w ∷ [] in
      ap (λ ys. set (set lists j more) k (remove_range ys a b)) (get_or-set_other lists j k more [] (λ e. other (sym e)))
      ∙ set_comm lists j k more (remove_range row a b) other
      ∙ ap (λ ys. set (set lists k (remove_range row a b)) j (ys ++ w ∷ [])) (sym (get_or-set_other lists k j (remove_range row a b) [] other))

pub closed_none : {X : Type 0} (lists : List (List X)) (k a : ℕ) → set lists k (remove_range (get_or lists k []) a a) ≡ lists
closed_none lists k a = ap (set lists k) (no_gap (get_or lists k []) a) ∙ set-get_or lists k []
