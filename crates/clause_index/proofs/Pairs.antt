-- The clauses of pairs of states, by their indexes.
use Rattle.std.proofs.Common.{◌≡◌, ℕ, zero, suc, ◌+◌, ◌-◌, ◌*◌, ◌/◌, ◌%◌, ◌<◌, ◌≤◌, true, false, arith, refl, inl, inr, ap, ap₂, sym, subst, ◌∙◌, List, [], ◌∷◌}
use Rattle.std.proofs.Common.{length, length-append, map, add-one, ◌≢◌}
use Rattle.std.specs.Prelude.{nat_lt}
use Rattle.std.proofs.Math.Nat.{mod-lt}
use Rattle.std.proofs.lemmas.Bool.{cases_lt, lt-ltb, le-ltb}
use Rattle.std.proofs.lemmas.Nat.{div-add-mod'}
use Rattle.ltl_syntax.specs.declared.node.Kind.{Kind}
use Rattle.ltl_syntax.specs.declared.node.Kind.TheVariants as Kinds
use Rattle.ltl_syntax.specs.Formula.{Formula}
use Rattle.ltl_closure.specs.Closure.{nexts, yesterdays, eventualities}
use Rattle.enc_layout.proofs.Counting.{length-carried}
use Rattle.enc_layout.specs.Letters.{LayoutValue, EntryAt, Equal, LoopTo, Differs, Fulfilled, below}
use Rattle.enc_layout.specs.Clauses.{Clause, Plus, Minus, literal_in, carried, place_clauses, equal_clause, fulfilled_clauses, loop_clause, closing_clauses}
use Rattle.enc_layout.specs.Clauses.{pair_clauses, pairs_part}
use Rattle.clause_index.specs.Rows.{row_at}
use Rattle.clause_index.specs.Counts.{sizes_of, pair_size, near_size, fulfilled_size}
use Rattle.clause_index.specs.ByNumber.{place_by, fulfilled_by, number_at, right_number, request_number}
use Rattle.clause_index.proofs.Rows.{row_right, row_even, row_blocks, block_within}
use Rattle.clause_index.proofs.Sizing.{length-even, length-places, length-closing, fulfilled_long, pair_far, pair_near, length-pairs_part}
use Rattle.clause_index.proofs.Links.{plus, minus}

fulfilled_same : (f : Formula) (i l m : ℕ) → l < i → fulfilled_by i l (suc m) (right_number f m) ≡ fulfilled_clauses f i l m
fulfilled_same f zero l m lt = absurd (omega arith)
fulfilled_same f (suc j) l m lt =
    let one : suc j - 1 ≡ j = omega arith in
    elim (cases_lt l j) [
      | inl before ↦
          let a : nat_lt (l + 1) (suc j) ≡ true = lt-ltb (l + 1) (suc j) (omega arith) in
          let b : nat_lt l j ≡ true = lt-ltb l j before in
          rw (a, b, one) refl
      | inr last ↦
          let a : nat_lt (l + 1) (suc j) ≡ false = le-ltb (l + 1) (suc j) (omega arith) in
          let b : nat_lt l j ≡ false = le-ltb l j last in
          rw (a, b) refl
    ]

module _ (layout : LayoutValue) (f : Formula) (i l : ℕ) where
  abbrev e : ℕ
  e = length (eventualities f)

  pub place_row : (index number : ℕ) → index < length (carried f) * 4 → number ≡ number_at f (carried f) (index / 4)
      → row_at layout (place_by i l (index / 4 + 1) number) (index % 4) ≡ row_at layout (below (length (carried f)) (place_clauses f i l)) index
  place_row index number lt is =
      ap (λ q. row_at layout (place_by i l q number) (index % 4)) (add-one (index / 4))
      ∙ (ap (λ n. row_at layout (place_by i l (suc (index / 4)) n) (index % 4)) is
      ∙ sym (row_even layout.kind layout.counts 4 (length (carried f)) (place_clauses f i l) index (λ k h. refl) lt))

  pub fulfilled_row : (index right size : ℕ) → l < i → index < length (eventualities f) * fulfilled_size i l → size ≡ fulfilled_size i l
      → right ≡ right_number f (index / size)
      → row_at layout (fulfilled_by i l (index / size + 1) right) (index % size) ≡ row_at layout
      (below (length (eventualities f)) (fulfilled_clauses f i l)) index
  fulfilled_row index right size earlier lt is r =
      ap (λ q. row_at layout (fulfilled_by i l q right) (index % size)) (add-one (index / size))
      ∙ (ap (λ n. row_at layout (fulfilled_by i l (suc (index / size)) n) (index % size)) r
      ∙ (ap (λ cs. row_at layout cs (index % size)) (fulfilled_same f i l (index / size) earlier)
      ∙ (ap (λ s. row_at layout (fulfilled_clauses f i l (index / s)) (index % s)) is
      ∙ sym (row_even layout.kind layout.counts (fulfilled_size i l) (length (eventualities f)) (fulfilled_clauses f i l) index
      (λ m some. fulfilled_long f i l m earlier) lt))))

  pub asked_row : (index request : ℕ) → index < length (eventualities f) → request ≡ request_number f index
      → minus layout (LoopTo l i) ∷ minus layout (EntryAt i request) ∷ plus layout (Fulfilled l i (index + 1)) ∷ [] ≡ row_at layout
      (below (length (eventualities f)) (λ m. loop_clause f i l m ∷ [])) index
  asked_row index request lt r =
      let same : index / 1 ≡ index = omega arith in
      let none : index % 1 ≡ 0 = omega arith in
      ap₂ (λ n m. minus layout (LoopTo l i) ∷ minus layout (EntryAt i n) ∷ plus layout (Fulfilled l i m) ∷ []) r (add-one index)
      ∙ sym (row_even layout.kind layout.counts 1 (length (eventualities f)) (λ m. loop_clause f i l m ∷ []) index (λ k h. refl) (omega arith)
      ∙ rw (same, none) refl)

  abbrev F : List Clause
  F = below (length (eventualities f)) (fulfilled_clauses f i l)

  abbrev L : List Clause
  L = below (length (eventualities f)) (λ m. loop_clause f i l m ∷ [])

  length-F : l < i → length F ≡ length (eventualities f) * fulfilled_size i l
  length-F lt = length-even (fulfilled_size i l) (length (eventualities f)) (fulfilled_clauses f i l) (λ m some. fulfilled_long f i l m lt)

  pub closing_middle : (index : ℕ) → l < i → index ≡ length (eventualities f) * fulfilled_size i l
      → minus layout (LoopTo l i) ∷ plus layout (Equal l i) ∷ [] ≡ row_at layout (closing_clauses f Kinds.Infinite i l) index
  closing_middle index earlier is =
      let at : length (eventualities f) * fulfilled_size i l + 0 ≡ index = omega arith in
      sym (row_right layout.kind layout.counts F ((Minus (LoopTo l i) ∷ Plus (Equal l i) ∷ []) ∷ L) (length (eventualities f) * fulfilled_size i l) 0
      (length-F earlier))
      ∙ ap (row_at layout (closing_clauses f Kinds.Infinite i l)) at

  pub closing_last : (index k : ℕ) → l < i → length (eventualities f) * fulfilled_size i l + (1 + k) ≡ index
      → row_at layout (below (length (eventualities f)) (λ m. loop_clause f i l m ∷ [])) k ≡ row_at layout (closing_clauses f Kinds.Infinite i l) index
  closing_last index k earlier is =
      sym (row_right layout.kind layout.counts ((Minus (LoopTo l i) ∷ Plus (Equal l i) ∷ []) ∷ []) L 1 k refl)
      ∙ (sym (row_right layout.kind layout.counts F ((Minus (LoopTo l i) ∷ Plus (Equal l i) ∷ []) ∷ L) (length (eventualities f) * fulfilled_size i l) (1 + k)
      (length-F earlier))
      ∙ ap (row_at layout (closing_clauses f Kinds.Infinite i l)) is)

  pub closing_long : l < i → length (closing_clauses f Kinds.Infinite i l) ≡ length (eventualities f) * fulfilled_size i l + (1 + length (eventualities f))
  closing_long earlier = length-closing f Kinds.Infinite i l earlier

  module _ (kind : Kind) where
    abbrev P : List Clause
    P = below (length (carried f)) (place_clauses f i l)

    pub pair_middle : (index : ℕ)
        → index ≡ length (carried f) * 4 → map (literal_in layout.kind layout.counts) (equal_clause f i l) ≡ row_at layout (pair_clauses f kind i l) index
    pair_middle index is =
        let at : length (carried f) * 4 + 0 ≡ index = omega arith in
        sym (row_right layout.kind layout.counts P (equal_clause f i l ∷ closing_clauses f kind i l) (length (carried f) * 4) 0 (length-places f i l))
        ∙ ap (row_at layout (pair_clauses f kind i l)) at

    pub pair_last : (index k : ℕ)
        → length (carried f) * 4 + (1 + k) ≡ index → row_at layout (closing_clauses f kind i l) k ≡ row_at layout (pair_clauses f kind i l) index
    pair_last index k is =
        sym (row_right layout.kind layout.counts (equal_clause f i l ∷ []) (closing_clauses f kind i l) 1 k refl)
        ∙ (sym (row_right layout.kind layout.counts P (equal_clause f i l ∷ closing_clauses f kind i l) (length (carried f) * 4) (1 + k) (length-places f i l))
        ∙ ap (row_at layout (pair_clauses f kind i l)) is)

    pub pair_long : length (pair_clauses f kind i l) ≡ length (carried f) * 4 + (1 + length (closing_clauses f kind i l))
    pair_long = let a = length-places f i l in let b = length-append P (equal_clause f i l ∷ closing_clauses f kind i l) in omega arith

-- only the infinite kind has clauses behind that of equal carries
pub behind_infinite : (f : Formula) (kind : Kind) (i l index : ℕ) → index < length (closing_clauses f kind i l) → kind ≡ Kinds.Infinite
behind_infinite f Kinds.Infinite i l index lt = refl
behind_infinite f Kinds.Finite i l index lt = absurd (omega arith)

pub behind_within : (f : Formula) (kind : Kind) (i l index : ℕ) → index < length (closing_clauses f kind i l)
    → index < length (closing_clauses f Kinds.Infinite i l)
behind_within f Kinds.Infinite i l index lt = lt
behind_within f Kinds.Finite i l index lt = absurd (omega arith)

-- the pairs of a step
near_less : (kind : Kind) (f : Formula) → near_size kind (sizes_of f kind) ≤ pair_size kind (sizes_of f kind)
near_less Kinds.Infinite f = omega arith
near_less Kinds.Finite f = omega arith

pair_some : (kind : Kind) (f : Formula) → 0 < pair_size kind (sizes_of f kind)
pair_some Kinds.Infinite f = omega arith
pair_some Kinds.Finite f = omega arith

-- where a clause of the pairs stands
pub record IsInPair (layout : LayoutValue) (f : Formula) (kind : Kind) (i index size : ℕ) : Type 0 where
  pub earlier : index / size < i
  pub within : index % size < length (pair_clauses f kind i (index / size))
  pub row : row_at layout (pair_clauses f kind i (index / size)) (index % size) ≡ row_at layout (pairs_part f kind i) index

in_pair : (layout : LayoutValue) (f : Formula) (kind : Kind) (i index : ℕ) → index < length (pairs_part f kind i)
    → IsInPair layout f kind i index (pair_size kind (sizes_of f kind))
in_pair layout f kind zero index lt = absurd (omega arith)
in_pair layout f kind (suc j) index lt =
    let size = pair_size kind (sizes_of f kind) in
    let total = length-pairs_part f kind (suc j) in
    let less = near_less kind f in
    let some = pair_some kind f in
    let before : index / pair_size kind (sizes_of f kind) < suc j = block_within size (suc j) index (omega arith) in
    let inside : index % pair_size kind (sizes_of f kind) < length (pair_clauses f kind (suc j) (index / pair_size kind (sizes_of f kind))) =
    elim (cases_lt (index / size) j) [
      | inl far ↦
          let long = pair_far f kind (suc j) (index / size) (omega arith) in
          let rest = mod-lt index {m = size} some in
          omega arith
      | inr last ↦
          let same : index / pair_size kind (sizes_of f kind) ≡ j = omega arith in
          let whole : j * pair_size kind (sizes_of f kind) + index % pair_size kind (sizes_of f kind) ≡ index =
          ap (λ q. q * size + index % size) (sym same) ∙ div-add-mod' index size in
          let long = pair_near f kind (suc j) (index / size) (ap suc same) in
          omega arith
    ] in
    record {
      earlier = before;
      within = inside;
      row = sym (row_blocks layout.kind layout.counts size (suc j) (pair_clauses f kind (suc j)) index some
          (λ k h. pair_far f kind (suc j) k (omega arith)) before inside);
    }

pub in_pair_of : (layout : LayoutValue) (f : Formula) (kind : Kind) (i index size : ℕ) → size ≡ pair_size kind (sizes_of f kind)
    → index < length (pairs_part f kind i) → IsInPair layout f kind i index size
in_pair_of layout f kind i index size is lt = subst (IsInPair layout f kind i index) (sym is) (in_pair layout f kind i index lt)

pub equal_all : (layout : LayoutValue) (f : Formula) (i l n : ℕ) → n ≡ length (carried f)
    → map (literal_in layout.kind layout.counts)
    (Plus (Equal l i) ∷ below n (λ q. Plus (Differs l i (suc q)) ∷ [])) ≡ map (literal_in layout.kind layout.counts) (equal_clause f i l)
equal_all layout f i l n is = ap (λ m. map (literal_in layout.kind layout.counts) (Plus (Equal l i) ∷ below m (λ q. Plus (Differs l i (suc q)) ∷ []))) is

-- what is behind the clause of equal carries
pub pair_behind : (layout : LayoutValue) (f : Formula) (i l : ℕ) (kind : Kind) (index n : ℕ) → n ≡ length (nexts f) + length (yesterdays f)
    → index < length (pair_clauses f kind i l) → 4 * n ≤ index → index ≢ 4 * n
    → (index - 4 * n - 1 < length (closing_clauses f kind i l)) × (length (carried f) * 4 + (1 + (index - 4 * n - 1)) ≡ index)
pair_behind layout f i l kind index n is lt behind other =
    let all = length-carried f in
    let long = pair_long layout f i l kind in
    (grind arith, grind arith)
