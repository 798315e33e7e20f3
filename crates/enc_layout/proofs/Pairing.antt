-- Pairs prune where triples do. Whether carries are one and what is fulfilled is decided.
use Rattle.std.proofs.Common.{◌≡◌, ℕ, zero, suc, ◌<◌, ◌≤◌, IsTrue, inl, inr, arith}
use Rattle.ltl_syntax.specs.declared.node.Kind.TheVariants as Kinds
use Rattle.std.proofs.lemmas.Bool.{cases_lt}
use Rattle.ltl_syntax.specs.Formula.{Formula}
use Rattle.ltl_closure.specs.Norm.{Norm}
use Rattle.ltl_closure.specs.Run.{RunState, States, carry, is_fulfilled, IsFulfilledIn, IsPrunedAt, Triple}
use Rattle.enc_layout.specs.Pairs.{IsSeen, PairPrunes}
use Rattle.ltl_word.proofs.Search.{first_or_none, ×_decided, IsTrue_decided}
use native.Mathlib.Decide.{dec_lt}
use mathlib.Core.Bool.{Bool-discrete}
use mathlib.Core.List.{List-discrete}

-- the least position that has it
pub least_of : (A : ℕ → Type 0) → ((i : ℕ) → Dec (A i)) → (n : ℕ) → A n → (m : ℕ) × (m ≤ n) × A m × ((j : ℕ) → j < m → A j → ⊥)
least_of A d n a = go n n (omega arith) a
  where
    go : (fuel n : ℕ) → n ≤ fuel → A n → (m : ℕ) × (m ≤ n) × A m × ((j : ℕ) → j < m → A j → ⊥)
    go zero n le a = (n, omega arith, a, λ j lt b. omega arith)
    go (suc fuel) n le a = elim (first_or_none A d n) [
      | inr none ↦ (n, omega arith, a, none)
      | inl w ↦ let r = go fuel w.0 (omega arith) w.2 in (r.0, omega arith, r.2, r.3)
    ]

pub carry_decided : (f : Formula) (s u : RunState) → Dec (carry f s ≡ carry f u)
carry_decided f s u = List-discrete Bool-discrete (carry f s) (carry f u)

pub fulfilled_decided : (r : States) (l i : ℕ) (e : Norm) → Dec (IsFulfilledIn r l i e)
fulfilled_decided r l i e =
    elim (first_or_none (λ j. (l < j) × IsTrue (is_fulfilled (r j) e)) (λ j. ×_decided (dec_lt l j) (IsTrue_decided (is_fulfilled (r j) e))) (suc i)) [
      | inl w ↦ yes (w.0, w.2.0, omega arith, w.2.1)
      | inr none ↦ no (λ w. none w.0 (omega arith) (w.1, w.3))
    ]

pub seen_decided : (f : Formula) (r : States) (i : ℕ) (e : Norm) → Dec (IsSeen f r i e)
seen_decided f r i e = elim (first_or_none (λ l. (carry f (r l) ≡ carry f (r i)) × IsFulfilledIn r l i e)
    (λ l. ×_decided (carry_decided f (r l) (r i)) (fulfilled_decided r l i e)) i) [
      | inl w ↦ yes (w.0, w.1, w.2.0, w.2.1)
      | inr none ↦ no (λ w. none w.0 w.1 (w.2, w.3))
    ]

pub pair_from_triple : (f : Formula) (r : States) (i : ℕ) → IsPrunedAt f r i Kinds.Infinite → (j : ℕ) × (j < i) × PairPrunes f r j i
pair_from_triple f r i (Triple l j a b one two pruned) =
    (j, b, (two, (l, a, one), λ e c n. n.2 (l, a, one, pruned e c n.0 n.1)))

-- the earliest state with the carry of j gives the widest part
pub triple_from_pair : (f : Formula) (r : States) (i j : ℕ) → j < i → PairPrunes f r j i → IsPrunedAt f r i Kinds.Infinite
triple_from_pair f r i j lt (two, rep, none) =
    let m = least_of (λ l. carry f (r l) ≡ carry f (r j)) (λ l. carry_decided f (r l) (r j)) rep.0 rep.2 in
    Triple m.0 j (omega arith) lt m.2 two (λ e c p g. elim (seen_decided f r j e) [
      | no n ↦ absurd (none e c (p, g, n))
      | yes s ↦ elim (cases_lt s.0 m.0) [
        | inl early ↦ absurd (m.3 s.0 early s.2)
        | inr late ↦ (s.3.0, omega arith, s.3.2, s.3.3)
      ]
    ])
