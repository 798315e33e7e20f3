-- A residue is at most twice as large as its formula, and the axioms are few enough for 32 bits.
use Rattle.std.proofs.Common.{◌≡◌, ℕ, zero, suc, ◌+◌, ◌-◌, ◌*◌, ◌<◌, ◌≤◌, sym, subst, arith, inl, inr, lt-ltb, le-ltb, List, [], ◌∷◌, ◌++◌, length}
use Rattle.std.proofs.Common.{length-append, slice_index_or}
use Rattle.std.proofs.lemmas.Bool.{cases_lt, cond-true, cond-false}
use Rattle.std.proofs.Math.Nat.{mul-le-mul_right}
use Rattle.std.proofs.Math.ListN.{get_or-append}
use Rattle.std.proofs.Math.Seq.{get_or-append_seam}
use Rattle.ltl_syntax.specs.declared.node.UnaryOp.{UnaryOp}
use Rattle.ltl_syntax.specs.declared.node.BinaryOp.{BinaryOp}
use Rattle.ltl_syntax.specs.declared.node.UnaryOp.TheVariants.{HistoricallyIn}
use Rattle.ltl_syntax.specs.declared.node.UnaryOp.TheVariants.{OnceIn, YesterdayTimes}
use Rattle.ltl_syntax.specs.declared.node.BinaryOp.TheVariants.{And}
use Rattle.ltl_syntax.specs.Formula.{Formula, Const, Letter, Unary, Binary}
use Rattle.ltl_syntax.specs.Size.{operator_size, formula_size}
use Rattle.ltl_syntax.specs.Table.{Table, tree_at}
use Rattle.depast.specs.declared.counts.Counts.{Counts}
use Rattle.depast.specs.Counting.{step_size, range_size, residue_size, residue_size₁, residue_size₂, chain_size, axioms_size, axioms_size₁, axioms_size₂}
use Rattle.depast.specs.Counting.{IsCount, AreCounts, blank_count}

step_small : (m r s : ℕ) → r ≤ 2 * s → step_size m r ≤ 2 * s + 1
step_small zero r s h = omega arith
step_small (suc m) r s h = omega arith

range_small : (m n r s : ℕ) → r ≤ 2 * s → range_size m n r ≤ 2 * s + 2 * operator_size (OnceIn m n)
range_small m n r s h = elim (cases_lt n m) [
  | inl empty ↦ let e : range_size m n r ≡ 1 = cond-true _ _ _ (lt-ltb n m empty) in omega (arith, e)
  | inr some ↦ let e : range_size m n r ≡ step_size m r + 2 * (n - m) = cond-false _ _ _ (le-ltb n m some) in omega (arith, e, by m some)
] where
  by : (m : ℕ) → m ≤ n → step_size m r + 2 * (n - m) ≤ 2 * s + 2 * operator_size (OnceIn m n)
  by zero le = omega arith
  by (suc m) le = omega arith

residue_small₁ : (op : UnaryOp) (r s : ℕ) → r ≤ 2 * s → residue_size₁ op r ≤ 2 * s + 2 * operator_size op
residue_small₁ (YesterdayTimes n) r s h = omega (arith, step_small n r s h)
residue_small₁ (OnceIn m n) r s h = range_small m n r s h
residue_small₁ (HistoricallyIn m n) r s h = range_small m n r s h
residue_small₁ op r s h = omega arith

residue_small₂ : (op : BinaryOp) (r q : ℕ) → residue_size₂ op r q ≤ r + q + 1
residue_small₂ And r q = omega arith
residue_small₂ op r q = omega arith

pub residue_small : (f : Formula) → residue_size f ≤ 2 * formula_size f
residue_small (Const b) = omega arith
residue_small (Letter p) = omega arith
residue_small (Unary op a) = omega (arith, residue_small₁ op (residue_size a) (formula_size a) (residue_small a))
residue_small (Binary op a b) = omega (arith, residue_small a, residue_small b, residue_small₂ op (residue_size a) (residue_size b))

chain_few : (each n r m : ℕ) → each ≤ 14 → r ≤ 32768 → chain_size each n r ≤ 98323 * operator_size (OnceIn m n)
chain_few each zero r m e h = omega arith
chain_few each (suc n) r m e h = let p : each * suc n ≤ 14 * suc n = mul-le-mul_right (suc n) e in omega (arith, p)

axioms_few₁ : (op : UnaryOp) (r : ℕ) → r ≤ 32768 → axioms_size₁ op r ≤ 98323 * operator_size op
axioms_few₁ (YesterdayTimes n) r h = chain_few 14 n r 0 (omega arith) h
axioms_few₁ (OnceIn m n) r h = chain_few 14 n r m (omega arith) h
axioms_few₁ (HistoricallyIn m n) r h = chain_few 13 n r m (omega arith) h
axioms_few₁ op r h = omega arith

axioms_few₂ : (op : BinaryOp) (r q : ℕ) → r + q ≤ 32768 → axioms_size₂ op r q ≤ 98323
axioms_few₂ And r q h = omega arith
axioms_few₂ op r q h = omega arith

pub axioms_few : (f : Formula) → formula_size f ≤ 16384 → axioms_size f ≤ 98323 * formula_size f
axioms_few (Const b) h = omega arith
axioms_few (Letter p) h = omega arith
axioms_few (Unary op a) h =
    let before = axioms_few a (omega arith) in
    let own = axioms_few₁ op (residue_size a) (omega (arith, residue_small a)) in
    omega (arith, before, own)
axioms_few (Binary op a b) h =
    let first = axioms_few a (omega arith) in
    let second = axioms_few b (omega arith) in
    let own = axioms_few₂ op (residue_size a) (residue_size b) (omega (arith, residue_small a, residue_small b)) in
    omega (arith, first, second, own)

-- ---- one node more is counted

pub counts_more : (t : Table) (cs cs' : List Counts) (c : Counts) → cs' ≡ cs ++ c ∷ [] → AreCounts t cs → IsCount (tree_at t (length cs)) c
    → formula_size (tree_at t (length cs)) ≤ 16384 → AreCounts t cs'
counts_more t cs cs' c e are is few = subst (AreCounts t) (sym e) (record {
  each = λ i lt. elim (cases_lt i (length cs)) [
    | inl before ↦ subst (IsCount (tree_at t i)) (sym (get_or-append cs (c ∷ []) blank_count i before)) (are.each i before)
    | inr after ↦
        let here : length cs ≡ i = omega (arith, length-append cs (c ∷ [])) in
        subst (λ j. IsCount (tree_at t j) (slice_index_or (cs ++ c ∷ []) j blank_count)) here
        (subst (IsCount (tree_at t (length cs))) (sym (get_or-append_seam cs c [] blank_count)) is)
  ];
  small = λ i lt. elim (cases_lt i (length cs)) [
    | inl before ↦ are.small i before
    | inr after ↦ let here : length cs ≡ i = omega (arith, length-append cs (c ∷ [])) in subst (λ j. formula_size (tree_at t j) ≤ 16384) here few
  ];
})

-- ---- how large a count is

pub record IsSmallCount (c : Counts) : Type 0 where
  pub residue_few : c.residue ≤ 32768
  pub axioms_few : c.axioms ≤ 1610924032

pub small_count : (t : Table) (cs : List Counts) (i : ℕ) → AreCounts t cs → i < length cs → IsSmallCount (slice_index_or cs i blank_count)
small_count t cs i are lt =
    let is = are.each i lt in
    let few = are.small i lt in
    record {
      residue_few = omega (arith, is.residue_is, residue_small (tree_at t i), few);
      axioms_few = omega (arith, is.axioms_is, axioms_few (tree_at t i) few, few);
    }
