-- The numbers of letters that only the infinite kind has.
use Rattle.std.proofs.Common.{zero, suc, inl, inr, length-append, ◌≡◌, ℕ, ◌+◌, ◌*◌, ◌-◌, ◌/◌, ◌≤◌, refl, ap, arith}
use Rattle.ltl_syntax.specs.declared.node.Kind.{Kind}
use Rattle.ltl_syntax.specs.declared.node.Kind.TheVariants as Kinds
use Rattle.std.proofs.lemmas.Bool.{cases_lt}
use Rattle.enc_layout.proofs.Numbers.{length-all_letters}
use Rattle.enc_layout.specs.Letters.{below, step_letters, Counts, EmptyAt, Repeated, Seen, LoopTo, Fulfilled, New, count_before, count_before_pair, own_count}
use Rattle.enc_layout.specs.Letters.{pair_count, letters_through, number_of, IsLetter}

pub empty_number : (kind : Kind) (c : Counts) (d i : ℕ) → IsLetter kind c d (EmptyAt i) → number_of kind c (EmptyAt i) ≡ count_before kind c i + 3
empty_number Kinds.Infinite c d i h = refl
empty_number Kinds.Finite c d i h = absurd h

pub repeated_number : (kind : Kind) (c : Counts) (d i : ℕ) → IsLetter kind c d (Repeated i) → number_of kind c (Repeated i) ≡ count_before kind c i + 4
repeated_number Kinds.Infinite c d i h = refl
repeated_number Kinds.Finite c d i h = absurd h

pub seen_number : (kind : Kind) (c : Counts) (d i m : ℕ) → IsLetter kind c d (Seen i m)
    → number_of kind c (Seen i m) ≡ count_before kind c i + 4 + c.entries + m
seen_number Kinds.Infinite c d i m h = refl
seen_number Kinds.Finite c d i m h = absurd h

pub loop_number : (kind : Kind) (c : Counts) (d l i : ℕ) → IsLetter kind c d (LoopTo l i) → number_of kind c (LoopTo l i) ≡ count_before_pair kind c l i + 2
loop_number Kinds.Infinite c d l i h = refl
loop_number Kinds.Finite c d l i h = absurd h

pub fulfilled_number : (kind : Kind) (c : Counts) (d l i m : ℕ) → IsLetter kind c d (Fulfilled l i m)
    → number_of kind c (Fulfilled l i m) ≡ count_before_pair kind c l i + 2 + c.places + m
fulfilled_number Kinds.Infinite c d l i m h = refl
fulfilled_number Kinds.Finite c d l i m h = absurd h

pub new_number : (kind : Kind) (c : Counts) (d l i m : ℕ) → IsLetter kind c d (New l i m)
    → number_of kind c (New l i m) ≡ count_before_pair kind c l i + 2 + c.places + c.eventualities + m
new_number Kinds.Infinite c d l i m h = refl
new_number Kinds.Finite c d l i m h = absurd h

-- bounds for the arithmetic
pub through_before : (kind : Kind) (c : Counts) (d : ℕ) → count_before kind c (d + 1) ≡ letters_through kind c d
through_before kind c d =
    let one : d + 1 - 1 ≡ d = omega arith in
    let turn : (d + 1) * (d + 1 - 1) ≡ d * (d + 1) = rw one (omega arith) in
    ap (λ m. 1 + (d + 1) * own_count kind c + m / 2 * pair_count kind c) turn

-- fewer steps have no more letters
letters_more : (kind : Kind) (c : Counts) (d : ℕ) → letters_through kind c d ≤ letters_through kind c (suc d)
letters_more kind c d =
    let a = length-all_letters kind c d in
    let b = length-all_letters kind c (suc d) in
    let n = length-append (below (suc d) (step_letters kind c)) (step_letters kind c (suc d)) in
    omega arith

pub letters_less : (kind : Kind) (c : Counts) (i d : ℕ) → i ≤ d → letters_through kind c i ≤ letters_through kind c d
letters_less kind c i zero le = let e : i ≡ 0 = omega arith in rw e (omega arith)
letters_less kind c i (suc d) le = elim (cases_lt i (suc d)) [
  | inl before ↦ let h = letters_less kind c i d (omega arith) in let m = letters_more kind c d in omega arith
  | inr here ↦ let e : i ≡ suc d = omega arith in rw e (omega arith)
]
