-- Where a clause stands in lists that are put together.
use Rattle.std.proofs.Common.{◌≡◌, ℕ, zero, suc, ◌+◌, ◌*◌, ◌/◌, ◌%◌, ◌<◌, arith, sym, ◌∙◌, ap, subst, refl, inl, inr, List, [], ◌++◌, length, get_or, map}
use Rattle.std.proofs.Common.{flat_map, length-append, get_or-append-add}
use Rattle.std.proofs.Math.Nat.{mod-lt, div-lt_iff_lt-mul}
use Rattle.std.proofs.lemmas.Bool.{cases_lt}
use Rattle.std.proofs.lemmas.Nat.{div-add-mod'}
use Rattle.std.proofs.lemmas.List.{get_or_append_left, map-append, length-map, get_or-map}
use Rattle.ltl_syntax.specs.declared.node.Kind.{Kind}
use Rattle.cnf_base.specs.declared.literal.Literal.{Literal as Signed}
use Rattle.enc_layout.specs.Letters.{Counts, below}
use Rattle.enc_layout.specs.Clauses.{Clause, literal_in, clauses_in}
use Rattle.enc_layout.proofs.ByIndex.{flat_map_below}

-- quotients
pub block_within : (s n index : ℕ) → index < n * s → index / s < n
block_within s n index lt = ((div-lt_iff_lt-mul {k = s} {x = index} {y = n} (some s n index lt)).1) lt
  where
    some : (s n index : ℕ) → index < n * s → 0 < s
    some zero n index lt = absurd (omega arith)
    some (suc s) n index lt = omega arith

pub block_some : (s n index : ℕ) → index < n * s → 0 < s
block_some zero n index lt = absurd (omega arith)
block_some (suc s) n index lt = omega arith

-- lists put together, by index
module _ {X : Type 0} (d : X) where
  at_below : (n : ℕ) (g : ℕ → List X) (k j : ℕ) → k < n → j < length (g k) → get_or (below n g) (length (below k g) + j) d ≡ get_or (g k) j d
  at_below zero g k j lt h = absurd (omega arith)
  at_below (suc n) g k j lt h = elim (cases_lt k n) [
    | inl before ↦ get_or_append_left (below n g) (g n) d (length (below k g) + j) (within n g k j before h) ∙ at_below n g k j before h
    | inr here ↦
        let e : k ≡ n = omega arith in
        subst (λ m. get_or (below m g ++ g m) (length (below k g) + j) d ≡ get_or (g k) j d) e (get_or-append-add (below k g) (g k) j d)
  ]
    where
      within : (n : ℕ) (g : ℕ → List X) (k j : ℕ) → k < n → j < length (g k) → length (below k g) + j < length (below n g)
      within zero g k j lt h = absurd (omega arith)
      within (suc n) g k j lt h = elim (cases_lt k n) [
        | inl before ↦ let ih = within n g k j before h in let e = length-append (below n g) (g n) in omega arith
        | inr here ↦
            let e : k ≡ n = omega arith in
            let a = length-append (below k g) (g k) in
            subst (λ m. length (below k g) + j < length (below m g ++ g m)) e (omega arith)
      ]

-- the same of clauses over the numbers of letters
module _ (kind : Kind) (c : Counts) where
  abbrev pub row : List Clause → ℕ → List Signed
  row cs n = get_or (clauses_in kind c cs) n []

  pub long : (cs : List Clause) → length (clauses_in kind c cs) ≡ length cs
  long cs = length-map cs (map (literal_in kind c))

  pub row_left : (xs ys : List Clause) (n : ℕ) → n < length xs → row (xs ++ ys) n ≡ row xs n
  row_left xs ys n lt =
      let l = long xs in
      ap (λ z. get_or z n []) (map-append (map (literal_in kind c)) xs ys)
      ∙ get_or_append_left (clauses_in kind c xs) (clauses_in kind c ys) [] n (omega arith)

  pub row_right : (xs ys : List Clause) (n k : ℕ) → length xs ≡ n → row (xs ++ ys) (n + k) ≡ row ys k
  row_right xs ys n k e =
      let l : n ≡ length (clauses_in kind c xs) = sym (long xs ∙ e) in
      ap (λ z. get_or z (n + k) []) (map-append (map (literal_in kind c)) xs ys)
      ∙ (ap (λ m. get_or (clauses_in kind c xs ++ clauses_in kind c ys) (m + k) []) l
      ∙ get_or-append-add (clauses_in kind c xs) (clauses_in kind c ys) k [])

  clauses_below : (n : ℕ) (g : ℕ → List Clause) → clauses_in kind c (below n g) ≡ below n (λ k. clauses_in kind c (g k))
  clauses_below zero g = refl
  clauses_below (suc n) g = map-append (map (literal_in kind c)) (below n g) (g n) ∙ ap (λ z. z ++ clauses_in kind c (g n)) (clauses_below n g)

  pub row_below : (n : ℕ) (g : ℕ → List Clause) (k j m : ℕ) → k < n → j < length (g k) → length (below k g) ≡ m → row (below n g) (m + j) ≡ row (g k) j
  row_below n g k j m lt h e =
      let l : m ≡ length (below k (λ k. clauses_in kind c (g k))) = sym e ∙ (sym (long (below k g)) ∙ ap length (clauses_below k g)) in
      let inside = long (g k) in
      ap (λ z. get_or z (m + j) []) (clauses_below n g)
      ∙ (ap (λ i. get_or (below n (λ k. clauses_in kind c (g k))) (i + j) []) l
      ∙ at_below [] n (λ k. clauses_in kind c (g k)) k j lt (omega arith))

  -- pieces of one length but for the last, which is no longer
  pub row_blocks : (s n : ℕ) (g : ℕ → List Clause) (index : ℕ) → 0 < s → ((k : ℕ) → k < index / s → length (g k) ≡ s)
      → index / s < n → index % s < length (g (index / s)) → row (below n g) index ≡ row (g (index / s)) (index % s)
  row_blocks s n g index some same lt inside =
      subst (λ i. row (below n g) i ≡ row (g (index / s)) (index % s)) (div-add-mod' index s)
      (row_below n g (index / s) (index % s) (index / s * s) lt inside (lengths (index / s) same))
    where
      lengths : (m : ℕ) → ((k : ℕ) → k < m → length (g k) ≡ s) → length (below m g) ≡ m * s
      lengths zero h = omega arith
      lengths (suc m) h =
          let ih = lengths m (λ k lt. h k (omega arith)) in
          let one = h m (omega arith) in
          let a = length-append (below m g) (g m) in
          omega arith

  pub row_even : (s n : ℕ) (g : ℕ → List Clause) (index : ℕ) → ((k : ℕ) → k < n → length (g k) ≡ s)
      → index < n * s → row (below n g) index ≡ row (g (index / s)) (index % s)
  row_even s n g index same lt =
      let some = block_some s n index lt in
      let inside = mod-lt index {m = s} some in
      let before = block_within s n index lt in
      let one = same (index / s) before in
      row_blocks s n g index some (λ k h. same k (omega arith)) before (omega arith)

  -- over the members of a list
  pub row_flat : {Y : Type 0} (s : ℕ) (g : Y → List Clause) (ys : List Y) (d : Y) (index : ℕ) → ((k : ℕ) → k < length ys → length (g (get_or ys k d)) ≡ s)
      → index < length ys * s
      → row (flat_map g ys) index ≡ row (g (get_or ys (index / s) d)) (index % s)
  row_flat s g ys d index same lt =
      ap (λ z. row z index) (flat_map_below g ys d) ∙ row_even s (length ys) (λ k. g (get_or ys k d)) index same lt

  pub row_map : {Y : Type 0} (h : Y → Clause) (ys : List Y) (d : Y) (index : ℕ) → index < length ys
      → row (map h ys) index ≡ map (literal_in kind c) (h (get_or ys index d))
  row_map h ys d index lt =
      let l = length-map ys h in
      get_or-map (map (literal_in kind c)) (map h ys) index [] [] (omega arith)
      ∙ ap (map (literal_in kind c)) (get_or-map h ys index d [] lt)
