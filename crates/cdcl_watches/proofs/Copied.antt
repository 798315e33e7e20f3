-- A clause as it stands in a buffer is what it was put there by, so it may be copied to another.
use Rattle.std.proofs.Common.{◌≡◌, ℕ, ◌+◌, ◌<◌, ◌≤◌, ◌^◌, List, [], ◌∷◌, ◌++◌, map, length, get_or, slice_range, Contains, sym, ap, ap₂, ◌∙◌, arith}
use Rattle.std.proofs.lemmas.List.{get_or-map, get_or_default}
use Rattle.cnf_base.specs.declared.literal.Literal.{Literal}
use Rattle.cnf_base.specs.RowPieces.{row_pieces}
use Rattle.cdcl_watches.specs.Watching.{code, literal_of, clause_of}
use Rattle.cdcl_watches.specs.Turned.{turned}
use Rattle.cdcl_watches.specs.Heads.{place_at, decoded, clauses_at, names_at, heads_of, number_of, AreHeads}
use Rattle.cdcl_watches.proofs.Codes.{codes_literal}
use Rattle.cdcl_watches.proofs.Turned.{turned_turned}
use Rattle.cdcl_watches.proofs.HeadNumbers.{number_low}
use Rattle.cdcl_watches.proofs.Pieces.{range_at}
use Rattle.cdcl_watches.proofs.Buffer.{row_at, row_length, clause_row, clause_length, pushed_heads, pushed_value, value_of}

-- the items of a clause, by what is decoded from them
row_is : (row : List ℕ) → 2 ≤ length row → row ≡ get_or row 0 0 ∷ get_or row 1 0 ∷ map code (turned (decoded row))
row_is [] long = absurd (omega (arith, long))
row_is (a ∷ []) long = absurd (omega (arith, long))
row_is (a ∷ b ∷ row) long = ap (λ ns. a ∷ b ∷ ns) (sym (ap (map code) (turned_turned (map literal_of row)) ∙ codes_literal row))

module _ (items heads : List ℕ) (are : AreHeads items heads) (c : ℕ) (known : c < length heads) where
  -- they are those that the clause and its name were put there by
  items_of : slice_range items (get_or heads c 0) (get_or heads c 0 + 2 + get_or items (get_or heads c 0) 0)
      ≡ length (clause_of (clauses_at items heads) c) ∷ get_or (names_at items heads) c 0 ∷ map code (turned (clause_of (clauses_at items heads) c))
  items_of =
      let h = get_or heads c 0 in
      let n = get_or items h 0 in
      let row = get_or (row_pieces items (map (place_at items) heads)) c [] in
      let at = row_at items heads are c known in
      let inside = are.inside c known in
      let zeroth : h + 0 ≡ h = omega arith in
      let front : get_or row 0 0 ≡ n =
      ap (λ xs. get_or xs 0 0) at ∙ range_at items h (h + 2 + n) (omega arith) inside 0 0 (omega arith) ∙ ap (λ p. get_or items p 0) zeroth in
      let name : get_or row 1 0 ≡ get_or (names_at items heads) c 0 =
      ap (λ xs. get_or xs 1 0) at ∙ range_at items h (h + 2 + n) (omega arith) inside 1 0 (omega arith)
      ∙ sym (get_or-map (λ m. get_or items (m + 1) 0) heads c 0 0 known) in
      sym at ∙ row_is row (omega (arith, row_length items heads are c known))
      ∙ ap₂ (λ x y. x ∷ y ∷ map code (turned (decoded row))) (front ∙ sym (clause_length items heads are c known)) name
      ∙ ap (λ r. length (clause_of (clauses_at items heads) c) ∷ get_or (names_at items heads) c 0 ∷ map code (turned r))
      (sym (clause_row items heads are c known))

module _ (items heads : List ℕ) (are : AreHeads items heads) (h : ℕ) (there : Contains heads h) (n : ℕ) (n_is : n ≡ get_or items h n) where
  at_head : get_or heads (number_of heads h) 0 ≡ h
  at_head = (number_low heads h there).1

  count_is : n ≡ get_or items h 0
  count_is = n_is ∙ get_or_default items h n 0 (omega (arith, are.inside (number_of heads h) (number_low heads h there).0, at_head))

  pub items_at_head : slice_range items h (h + 2 + n)
      ≡ length (clause_of (clauses_at items heads) (number_of heads h)) ∷ get_or (names_at items heads) (number_of heads h) 0 ∷ map code
      (turned (clause_of (clauses_at items heads) (number_of heads h)))
  items_at_head =
      ap (λ m. slice_range items h (h + 2 + m)) count_is
      ∙ ap (λ p. slice_range items p (p + 2 + get_or items p 0)) (sym at_head)
      ∙ items_of items heads are (number_of heads h) (number_low heads h there).0

  pub count_at_head : n ≡ length (clause_of (clauses_at items heads) (number_of heads h))
  count_at_head =
      count_is ∙ ap (λ p. get_or items p 0) (sym at_head)
      ∙ sym (clause_length items heads are (number_of heads h) (number_low heads h there).0)

-- the clause at a head of one buffer is put behind those of another, item by item
module _ (items others : List ℕ) (are : AreHeads items (heads_of items)) (are_others : AreHeads others (heads_of others)) (h : ℕ)
    (there : Contains (heads_of others) h) (n : ℕ) (n_is : n ≡ get_or others h n)
    (new : List ℕ) (new_is : new ≡ items ++ slice_range others h (h + 2 + n)) (short : length items + 2 + n < 2 ^ 32) where
  abbrev clause : List Literal
  clause = clause_of (clauses_at others (heads_of others)) (number_of (heads_of others) h)

  abbrev name : ℕ
  name = get_or (names_at others (heads_of others)) (number_of (heads_of others) h) 0

  put_is : new ≡ items ++ length clause ∷ name ∷ map code (turned clause)
  put_is = new_is ∙ ap (λ ys. items ++ ys) (items_at_head others (heads_of others) are_others h there n n_is)

  fits : length items + 2 + length clause < 2 ^ 32
  fits = omega (arith, short, count_at_head others (heads_of others) are_others h there n n_is)

  pub copied_heads : AreHeads new (heads_of new)
  copied_heads = pushed_heads items are name clause new put_is fits

  pub copied_value : (here : ℕ) → here ≡ length items → value_of new ≡ record {
    clauses = clauses_at items (heads_of items) ++ clause_of (clauses_at others (heads_of others)) (number_of (heads_of others) h) ∷ [];
    heads = heads_of items ++ here ∷ [];
    names = names_at items (heads_of items) ++ get_or (names_at others (heads_of others)) (number_of (heads_of others) h) 0 ∷ [];
  }
  copied_value here here_is = pushed_value items are name clause new put_is fits here here_is
