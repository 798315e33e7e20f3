-- The clauses of pruning, by their indexes.
use Rattle.std.proofs.Common.{◌≡◌, ℕ, zero, suc, ◌+◌, ◌-◌, ◌*◌, ◌/◌, ◌%◌, ◌<◌, ◌≤◌, arith, refl, ap, ap₂, sym, subst, ◌∙◌, List, [], ◌∷◌, ◌++◌, length, map}
use Rattle.std.proofs.Common.{add-one, ◌≢◌}
use Rattle.std.proofs.Math.Nat.{mod-lt}
use Rattle.ltl_syntax.specs.declared.node.Kind.{Kind}
use Rattle.ltl_syntax.specs.declared.node.Kind.TheVariants as Kinds
use Rattle.ltl_syntax.specs.Formula.{Formula}
use Rattle.ltl_closure.specs.Closure.{eventualities}
use Rattle.enc_layout.specs.Letters.{LayoutValue, Unpruned, Equal, Fulfilled, Seen, below}
use Rattle.enc_layout.specs.Clauses.{Clause, Plus, Minus, literal_in, seen_clauses, new_clauses, pruned_clause, pruning_part}
use Rattle.clause_index.specs.Rows.{row_at}
use Rattle.clause_index.specs.ByNumber.{seen_pair, new_by, pruned_row, request_number}
use Rattle.clause_index.proofs.Rows.{row_left, row_right, row_even, block_some}
use Rattle.clause_index.proofs.Links.{plus, minus}
use Rattle.clause_index.proofs.Sizing.{seen_long, news_long, pruned_long, all_seen_long, length-pruning_part}

module _ (layout : LayoutValue) (f : Formula) (i : ℕ) where
  pub new_row : (j index request : ℕ) → index < length (eventualities f) * 3 → request ≡ request_number f (index / 3)
      → row_at layout (new_by i j (index / 3 + 1) request) (index % 3) ≡ row_at layout (below (length (eventualities f)) (new_clauses f i j)) index
  new_row j index request lt r =
      ap₂ (λ m n. row_at layout (new_by i j m n) (index % 3)) (add-one (index / 3)) r
      ∙ sym (row_even layout.kind layout.counts 3 (length (eventualities f)) (new_clauses f i j) index (λ k h. refl) lt)

  abbrev news_of : ℕ → List Clause
  news_of j = below (length (eventualities f)) (new_clauses f i j) ++ pruned_clause f i j ∷ []

  pub news_last : (j index n : ℕ) → index ≡ length (eventualities f) * 3 → n ≡ length (eventualities f)
      → map (literal_in layout.kind layout.counts) (pruned_row n i j) ≡ row_at layout
      (below (length (eventualities f)) (new_clauses f i j) ++ pruned_clause f i j ∷ []) index
  news_last j index n is ni =
      let at : length (eventualities f) * 3 + 0 ≡ index = omega arith in
      ap (λ m. map (literal_in layout.kind layout.counts) (pruned_row m i j)) ni
      ∙ (sym (row_right layout.kind layout.counts (below (length (eventualities f)) (new_clauses f i j)) (pruned_clause f i j ∷ [])
      (length (eventualities f) * 3) 0 (news_long f i j))
      ∙ ap (row_at layout (below (length (eventualities f)) (new_clauses f i j) ++ pruned_clause f i j ∷ [])) at)

  abbrev S : List Clause
  S = below i (seen_clauses f i)

  abbrev N : List Clause
  N = below i (λ j. below (length (eventualities f)) (new_clauses f i j) ++ pruned_clause f i j ∷ [])

  -- a clause of the first half
  pub seen_row : (index one n : ℕ) → one ≡ 1 + length (eventualities f) → n ≡ length (eventualities f) → index < i * one
      → row_at layout (seen_pair n i (index / one)) (index % one) ≡ row_at layout (pruning_part f Kinds.Infinite i) index
  seen_row index one n is ni lt =
      let size = 1 + length (eventualities f) in
      let within : index < i * (1 + length (eventualities f)) = subst (λ s. index < i * s) is lt in
      ap₂ (λ m s. row_at layout (seen_pair m i (index / s)) (index % s)) ni is
      ∙ (sym (row_even layout.kind layout.counts size i (seen_clauses f i) index (λ k h. seen_long f i k) within)
      ∙ sym (row_left layout.kind layout.counts S N index (omega (arith, within, all_seen_long f i))))

  -- and of the second
  pub news_row : (index rest pair : ℕ) → pair ≡ 1 + 3 * length (eventualities f) → i * (1 + length (eventualities f)) + rest ≡ index → rest < i * pair
      → row_at layout (below (length (eventualities f)) (new_clauses f i (rest / pair)) ++ pruned_clause f i (rest / pair) ∷ []) (rest % pair) ≡ row_at layout
      (pruning_part f Kinds.Infinite i) index
  news_row index rest pair is at lt =
      let size = 1 + 3 * length (eventualities f) in
      let within : rest < i * (1 + 3 * length (eventualities f)) = subst (λ s. rest < i * s) is lt in
      ap (λ s. row_at layout (below (length (eventualities f)) (new_clauses f i (rest / s)) ++ pruned_clause f i (rest / s) ∷ []) (rest % s)) is
      ∙ (sym (row_even layout.kind layout.counts size i news_of rest (λ k h. pruned_long f i k) within)
      ∙ (sym (row_right layout.kind layout.counts S N (i * (1 + length (eventualities f))) rest (all_seen_long f i))
      ∙ ap (row_at layout (pruning_part f Kinds.Infinite i)) at))

  -- a second carry on finite traces
  pub finite_row : (index : ℕ) → index < i
      → map (literal_in layout.kind layout.counts) (Minus Unpruned ∷ Minus (Equal index i) ∷ []) ≡ row_at layout (pruning_part f Kinds.Finite i) index
  finite_row index lt =
      let same : index / 1 ≡ index = omega arith in
      let none : index % 1 ≡ 0 = omega arith in
      sym (row_even layout.kind layout.counts 1 i (λ j. (Minus Unpruned ∷ Minus (Equal j i) ∷ []) ∷ []) index (λ k h. refl) (omega arith)
      ∙ rw (same, none) refl)

pub infinite_long : (f : Formula) (i : ℕ)
    → length (pruning_part f Kinds.Infinite i) ≡ i * (1 + length (eventualities f)) + i * (1 + 3 * length (eventualities f))
infinite_long f i = let a = length-pruning_part f Kinds.Infinite i in omega arith

pub finite_long : (f : Formula) (i : ℕ) → length (pruning_part f Kinds.Finite i) ≡ i
finite_long f i = let a = length-pruning_part f Kinds.Finite i in omega arith

pub rest_within : (s n index : ℕ) → index < n * s → index % s < s
rest_within s n index lt = mod-lt index {m = s} (block_some s n index lt)

-- what is fulfilled between the states of a pair is seen
pub seen_later : (layout : LayoutValue) (i l index : ℕ) → index < 1 + layout.counts.eventualities → index ≢ 0
    → minus layout (Equal l i) ∷ minus layout (Fulfilled l i index) ∷ plus layout (Seen i index) ∷ [] ≡ row_at layout
    (seen_pair layout.counts.eventualities i l) index
seen_later layout i l zero lt some = absurd (some refl)
seen_later layout i l (suc m) lt some =
    let same : m / 1 ≡ m = omega arith in
    let none : m % 1 ≡ 0 = omega arith in
    sym (row_even layout.kind layout.counts 1 layout.counts.eventualities
    (λ m. (Minus (Equal l i) ∷ Minus (Fulfilled l i (suc m)) ∷ Plus (Seen i (suc m)) ∷ []) ∷ []) m (λ k h. refl) (omega arith)
    ∙ rw (same, none) refl)

pub rest_place : (f : Formula) (i index n : ℕ) → n ≡ length (eventualities f) → i * (1 + n) ≤ index → index < length (pruning_part f Kinds.Infinite i)
    → (i * (1 + length (eventualities f)) + (index - i * (1 + n)) ≡ index) × (index - i * (1 + n) < i * (1 + 3 * n))
rest_place f i index n is behind lt =
    let all = infinite_long f i in
    let same = ap (λ m. i * (1 + m)) is in
    let more = ap (λ m. i * (1 + 3 * m)) is in
    (omega arith, omega arith)

pub finite_within : (f : Formula) (kind : Kind) (i index : ℕ) → kind ≡ Kinds.Finite → index < length (pruning_part f kind i) → index < i
finite_within f Kinds.Infinite i index is lt = cc
finite_within f Kinds.Finite i index is lt = let all = finite_long f i in omega arith
