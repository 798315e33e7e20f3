-- The size of a claim's formula, counted by the sizes of its entries.
use Rattle.std.proofs.Common.{◌≡◌, ℕ, ◌+◌, ◌-◌, ◌<◌, ◌≤◌, min, Bool, true, false, ◌⊎◌, inl, inr, refl, sym, ap, subst, ◌∙◌, arith, List, [], ◌∷◌, map, leb, All}
use Rattle.std.proofs.Common.{if◌then◌else◌}
use Rattle.std.specs.List.{sum_by}
use Rattle.std.proofs.lemmas.Bool.{cases_lt, le-leb, lt-leb}
use Rattle.std.proofs.lemmas.List.Sums.{sum_by-cons}
use Rattle.std.proofs.lemmas.List.Elements.{All-head, All-tail}
use Rattle.ltl_syntax.specs.Formula.{Formula, Binary, nodes_in}
use Rattle.ltl_syntax.specs.declared.node.BinaryOp.TheVariants.{And}
use Rattle.cnf_base.specs.declared.literal.Literal.{Literal}
use Rattle.cnf_base.specs.Known.{IsKnown}
use Rattle.claims.specs.Between.{width}
use Rattle.claim_reading.specs.Readable.{entry_formula}
use Rattle.claim_reading.specs.Never.{denied, joined, never_formula}
use Rattle.claim_reading.specs.Sizes.{AreSizes, literal_size, claim_size}

module _ (f : Formula) where
  -- what a literal adds
  abbrev adds : Literal → ℕ
  adds l = nodes_in (denied f l) + 1

  joined_nodes : (claim : List Literal) (g : Formula) → nodes_in (joined g (map (denied f) claim)) ≡ nodes_in g + sum_by adds claim
  joined_nodes [] g = omega arith
  joined_nodes (l ∷ more) g =
      let rest = joined_nodes more (Binary And g (denied f l)) in
      let one = sum_by-cons adds l more in
      omega (arith, rest, one)

  -- one more than the nodes of the formula
  claim_nodes : (l : Literal) (more : List Literal) → nodes_in (never_formula f (l ∷ more)) + 1 ≡ sum_by adds (l ∷ more)
  claim_nodes l more =
      let rest = joined_nodes more (denied f l) in
      let one = sum_by-cons adds l more in
      omega (arith, rest, one)

  adds_by : (b : Bool) (n : ℕ) (g h : Formula) → nodes_in g ≡ n → nodes_in h ≡ n + 1 → nodes_in (if b then g else h) + 1 ≡ n + (if b then 1 else 2)
  adds_by true n g h x y = omega (arith, x)
  adds_by false n g h x y = omega (arith, y)

  adds_is : (l : Literal) → adds l ≡ nodes_in (entry_formula f l.letter.0) + (if l.negated then 1 else 2)
  adds_is l = adds_by l.negated (nodes_in (entry_formula f l.letter.0)) _ _ refl refl

  some_sign : (b : Bool) → 1 ≤ (if b then 1 else 2)
  some_sign true = omega arith
  some_sign false = omega arith

  module _ (sizes : List ℕ) (are : AreSizes f (width f) sizes) where
    -- the count is right, or both are too large
    abbrev Counts : ℕ → ℕ → Type 0
    Counts n m = (n ≡ m) ⊎ ((16385 < n) × (16385 < m))

    capped_counts : (n s : ℕ) → 1 ≤ s → Counts (min n 16385 + s) (n + s)
    capped_counts n s some = elim (cases_lt n 16385) [
      | inl low ↦ inl (omega (arith, low))
      | inr high ↦ inr (omega (arith, high, some), omega (arith, high, some))
    ]

    literal_counts : (l : Literal) → IsKnown (width f) l → Counts (literal_size sizes l) (adds l)
    literal_counts l known =
        let from_one = known.from_one in
        let within = known.within in
        let n = nodes_in (entry_formula f l.letter.0) in
        let s = if l.negated then 1 else 2 in
        let at : l.letter.0 - 1 + 1 ≡ l.letter.0 = omega (arith, from_one) in
        let is = are.each (l.letter.0 - 1) (omega (arith, from_one, within)) ∙ ap (λ t. min (nodes_in (entry_formula f t)) 16385) at in
        subst (λ m. Counts (m + s) (adds l)) (sym is) (subst (Counts (min n 16385 + s)) (sym (adds_is l)) (capped_counts n s (some_sign l.negated)))

    sum_counts : (n m a b : ℕ) → Counts n m → Counts a b → Counts (n + a) (m + b)
    sum_counts n m a b (inl x) (inl y) = inl (omega (arith, x, y))
    sum_counts n m a b (inr x) y = inr (let u = x.0 in omega (arith, u), let u = x.1 in omega (arith, u))
    sum_counts n m a b (inl x) (inr y) = inr (let u = y.0 in omega (arith, u), let u = y.1 in omega (arith, u))

    all_count : (claim : List Literal) → All (IsKnown (width f)) claim → Counts (claim_size sizes claim) (sum_by adds claim)
    all_count [] known = inl refl
    all_count (l ∷ more) known =
        let one = literal_counts l (All-head (IsKnown (width f)) l more known) in
        let rest = all_count more (All-tail (IsKnown (width f)) l more known) in
        subst (λ n. Counts n (sum_by adds (l ∷ more))) (sym (sum_by-cons (literal_size sizes) l more))
        (subst (Counts (literal_size sizes l + claim_size sizes more)) (sym (sum_by-cons adds l more)) (sum_counts _ _ _ _ one rest))

    same_test : (n m k : ℕ) → Counts n m → k + 1 ≡ m → leb n 16385 ≡ leb k 16384
    same_test n m k (inl x) is = elim (cases_lt 16384 k) [
      | inl gt ↦ lt-leb n 16385 (omega (arith, x, is, gt)) ∙ sym (lt-leb k 16384 gt)
      | inr le ↦ le-leb n 16385 (omega (arith, x, is, le)) ∙ sym (le-leb k 16384 le)
    ]
    same_test n m k (inr x) is =
        let u = x.0 in
        let v = x.1 in
        lt-leb n 16385 u ∙ sym (lt-leb k 16384 (omega (arith, v, is)))

    pub counted : (claim : List Literal) → All (IsKnown (width f)) claim → leb (claim_size sizes claim) 16385 ≡ leb (nodes_in (never_formula f claim)) 16384
    counted [] known = refl
    counted (l ∷ more) known = same_test _ _ _ (all_count (l ∷ more) known) (claim_nodes l more)
