-- Letters that stand evenly apart: their literals are those of a run.
use Rattle.std.proofs.Common.{◌≡◌, ℕ, zero, suc, ◌+◌, ◌-◌, ◌*◌, ◌<◌, ◌≤◌, arith, refl, ap, ap₂, sym, ◌∙◌, [], ◌∷◌, ◌++◌, map}
use Rattle.std.proofs.lemmas.List.{map-append}
use Rattle.ltl_syntax.specs.declared.node.Kind.{Kind}
use Rattle.ltl_syntax.specs.declared.node.Kind.TheVariants as Kinds
use Rattle.enc_layout.specs.Letters.{Meaning, LoopTo, Differs, New, Counts, below, number_of, letters_through, pair_count}
use Rattle.enc_layout.specs.Clauses.{Plus, literal_in}
use Rattle.enc_layout.proofs.Numbers.{number_within}
use Rattle.clause_index.specs.Runs.{plain, evenly}

pub run_same : (kind : Kind) (c : Counts) (first apart n : ℕ) (g : ℕ → Meaning) → ((k : ℕ) → k < n → first + k * apart ≡ number_of kind c (g k))
    → evenly first apart n ≡ map (literal_in kind c) (below n (λ k. Plus (g k) ∷ []))
run_same kind c first apart zero g h = refl
run_same kind c first apart (suc n) g h =
    ap₂ ◌++◌ (run_same kind c first apart n g (λ k lt. h k (omega arith))) (ap (λ m. plain m ∷ []) (h n (omega arith)))
    ∙ sym (map-append (literal_in kind c) (below n (λ k. Plus (g k) ∷ [])) (Plus (g n) ∷ []))

-- the places of a pair's carries
pub differs_next : (kind : Kind) (c : Counts) (l i k : ℕ) → number_of kind c (Differs l i 1) + k * 1 ≡ number_of kind c (Differs l i (suc k))
differs_next Kinds.Infinite c l i k = omega arith
differs_next Kinds.Finite c l i k = omega arith

differs_last : (kind : Kind) (c : Counts) (l i n : ℕ) → 0 < n → number_of kind c (Differs l i 1) + (n - 1) * 1 ≡ number_of kind c (Differs l i n)
differs_last Kinds.Infinite c l i n some = omega arith
differs_last Kinds.Finite c l i n some = omega arith

differs_over : (kind : Kind) (c : Counts) (l i n : ℕ) → n ≤ number_of kind c (Differs l i n)
differs_over Kinds.Infinite c l i n = omega arith
differs_over Kinds.Finite c l i n = omega arith

pub differs_small : (kind : Kind) (c : Counts) (l i : ℕ) → l < i → 0 < c.places → letters_through kind c i ≤ 16777216
    → (c.places ≤ 16777216) × (number_of kind c (Differs l i 1) + (c.places - 1) * 1 ≤ 16777216)
differs_small kind c l i lt some fits =
    let w = number_within kind c i (Differs l i c.places) (omega arith, lt, some, omega arith) in
    let most = w.1 in
    let last = differs_last kind c l i c.places some in
    let over = differs_over kind c l i c.places in
    (omega arith, omega arith)

module _ (c : Counts) where
  abbrev number : Meaning → ℕ
  number p = number_of Kinds.Infinite c p

  -- what is new between the states of a pair
  pub new_next : (l i k : ℕ) → number (New l i 1) + k * 1 ≡ number (New l i (suc k))
  new_next l i k = omega arith

  pub new_small : (l i : ℕ) → l < i → 0 < c.eventualities → letters_through Kinds.Infinite c i ≤ 16777216
      → (c.eventualities ≤ 16777216) × (number (New l i 1) + (c.eventualities - 1) * 1 ≤ 16777216)
  new_small l i lt some fits =
      let w = number_within Kinds.Infinite c i (New l i c.eventualities) (omega arith, lt, some, omega arith) in
      let most = w.1 in
      (omega arith, omega arith)

  -- the loops of a step
  loop_next : (i k : ℕ) → number (LoopTo 0 i) + k * pair_count Kinds.Infinite c ≡ number (LoopTo k i)
  loop_next i k = omega arith

  loop_apart : (i : ℕ) → number (LoopTo 1 i) - number (LoopTo 0 i) ≡ pair_count Kinds.Infinite c
  loop_apart i = omega arith

  pub loops_next : (i k : ℕ) → number (LoopTo 0 i) + k * (number (LoopTo 1 i) - number (LoopTo 0 i)) ≡ number (LoopTo k i)
  loops_next i k = ap (λ n. number (LoopTo 0 i) + k * n) (loop_apart i) ∙ loop_next i k

  pub loops_small : (i : ℕ)
      → 0 < i → letters_through Kinds.Infinite c i ≤ 16777216 → number (LoopTo 0 i) + (i - 1) * (number (LoopTo 1 i) - number (LoopTo 0 i)) ≤ 16777216
  loops_small i some fits =
      let w = number_within Kinds.Infinite c i (LoopTo (i - 1) i) (omega arith, omega arith) in
      let most = w.1 in
      let last = loops_next i (i - 1) in
      omega arith

-- the same for the kind of a layout
pub loops_small_of : (kind : Kind) (c : Counts) → kind ≡ Kinds.Infinite → (i : ℕ) → 0 < i → letters_through kind c i ≤ 16777216 → (a b : ℕ)
    → a ≡ number_of kind c (LoopTo 0 i) → b ≡ number_of kind c (LoopTo 1 i)
    → a + (i - 1) * (b - a) ≤ 16777216
loops_small_of Kinds.Infinite c is i some fits a b ai bi = rw (ai, bi) (loops_small c i some fits)
loops_small_of Kinds.Finite c is i some fits a b ai bi = cc

pub loops_same_of : (kind : Kind) (c : Counts) → kind ≡ Kinds.Infinite → (i a b : ℕ) → a ≡ number_of kind c (LoopTo 0 i) → b ≡ number_of kind c (LoopTo 1 i)
    → evenly a (b - a) i ≡ map (literal_in kind c) (below i (λ l. Plus (LoopTo l i) ∷ []))
loops_same_of Kinds.Infinite c is i a b ai bi =
    run_same Kinds.Infinite c a (b - a) i (λ l. LoopTo l i) (λ k lt. ap₂ (λ x y. x + k * (y - x)) ai bi ∙ loops_next c i k)
loops_same_of Kinds.Finite c is i a b ai bi = cc

pub new_small_of : (kind : Kind) (c : Counts) → kind ≡ Kinds.Infinite → (l i : ℕ)
    → l < i → 0 < c.eventualities → letters_through kind c i ≤ 16777216 → number_of kind c (New l i 1) + (c.eventualities - 1) * 1 ≤ 16777216
new_small_of Kinds.Infinite c is l i lt some fits = (new_small c l i lt some fits).1
new_small_of Kinds.Finite c is l i lt some fits = cc

pub new_same_of : (kind : Kind) (c : Counts) → kind ≡ Kinds.Infinite → (l i n a : ℕ) → a ≡ number_of kind c (New l i 1)
    → evenly a 1 n ≡ map (literal_in kind c) (below n (λ m. Plus (New l i (suc m)) ∷ []))
new_same_of Kinds.Infinite c is l i n a ai = run_same Kinds.Infinite c a 1 n (λ m. New l i (suc m)) (λ k lt. ap (λ x. x + k * 1) ai ∙ new_next c l i k)
new_same_of Kinds.Finite c is l i n a ai = cc
