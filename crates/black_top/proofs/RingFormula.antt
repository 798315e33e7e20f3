-- The text of the ring of at most 64 places is accepted, and reads as the ring.
use Rattle.std.proofs.Common.{◌≡◌, ◌∙◌, ℕ, zero, suc, ◌+◌, ◌-◌, ◌*◌, ◌/◌, ◌%◌, ◌<◌, ◌≤◌, inl, inr, Bool, true, false, ◌&&◌, List, [], ◌∷◌, ◌++◌, length, refl}
use Rattle.std.proofs.Common.{sym, ap, ap₂, subst, arith, length-append}
use Rattle.std.specs.Prelude.{codes, nat_lt, if◌then◌else◌}
use Rattle.std.specs.Fmt.{decimal}
use Rattle.std.specs.List.{list_all}
use Rattle.std.proofs.lemmas.Bool.{cases_lt}
use Rattle.std.proofs.lemmas.Bool.Decides.{nat_tests}
use Rattle.std.proofs.lemmas.Fmt.{decimal_digit, decimal_step, length-decimal-le}
use Rattle.ltl_syntax.specs.declared.node.BinaryOp.TheVariants as two
use Rattle.ltl_syntax.specs.Formula.{Formula, Binary}
use Rattle.ltl_syntax.specs.Size.{formula_size}
use Rattle.ltl_syntax.specs.Print.{text_of}
use Rattle.ltl_lexer.proofs.Words.{is_word_byte, ascii_word}
use Rattle.ltl_parser.specs.Text.{ReadsText, IsAccepted, IsPrintable}
use Rattle.enc_layout.specs.Letters.{below}
use Rattle.black_top.specs.Demo.{place, moves, returns, apart, place_behind, apart_from_later, ring_parts, joined, ring}
use Rattle.black_top.proofs.Joining.{few_parts}

-- ---- places

digit_byte : (d : ℕ) → d < 10 → is_word_byte (48 + d) ≡ true
digit_byte d lt = grind (arith, nat_tests)

decimal_bytes : (i : ℕ) → i < 64 → list_all is_word_byte (decimal i) ≡ true
decimal_bytes i few = elim (cases_lt i 10) [
  | inl low ↦ subst (λ ds. list_all is_word_byte ds ≡ true) (sym (decimal_digit i low)) (ap (λ b. b && true) (digit_byte i low))
  | inr high ↦
      let tens : i / 10 < 10 = omega arith in
      let ones : i % 10 < 10 = omega arith in
      let e = decimal_step i high (omega (arith, few)) ∙ ap (λ ds. ds ++ (48 + i % 10) ∷ []) (decimal_digit (i / 10) tens) in
      subst (λ ds. list_all is_word_byte ds ≡ true) (sym e) (ap₂ (λ a b. a && (b && true)) (digit_byte (i / 10) tens) (digit_byte (i % 10) ones))
]

place_printable : (i : ℕ) → i < 64 → IsPrintable (place i)
place_printable i few = (ascii_word 112 (decimal i) refl (decimal_bytes i few), refl)

place_short : (i : ℕ) → i < 64 → length (text_of (place i)) ≤ 3
place_short i few = let d = length-decimal-le 2 i (omega arith) (omega (arith, few)) (omega (arith, few)) in omega (arith, d)

-- ---- parts

-- a formula that can be printed, with at most five nodes and 30 bytes
record IsSmall (f : Formula) : Type 0 where
  pub printable : IsPrintable f
  pub size : formula_size f ≤ 5
  pub short : length (text_of f) ≤ 30

abbrev AreSmall : List Formula → Type 0
AreSmall [] = Unit {0}
AreSmall (f ∷ fs) = IsSmall f × AreSmall fs

small_append : (fs gs : List Formula) → AreSmall fs → AreSmall gs → AreSmall (fs ++ gs)
small_append [] gs all more = more
small_append (f ∷ fs) gs (first, all) more = (first, small_append fs gs all more)

small_below : (n : ℕ) (g : ℕ → List Formula) → ((i : ℕ) → i < n → AreSmall (g i)) → AreSmall (below n g)
small_below zero g each = tt
small_below (suc n) g each = small_append (below n g) (g n) (small_below n g (λ i lt. each i (omega (arith, lt)))) (each n (omega arith))

-- a place and another text, joined by an operator
both_short : (op second : List ℕ) (i : ℕ)
    → i < 64 → length op ≤ 4 → length second ≤ 5 → length (codes "(" ++ text_of (place i) ++ op ++ second ++ codes ")") ≤ 14
both_short op second i few low high =
    let a = place_short i few in
    let c = length-append (codes "(" ++ text_of (place i) ++ op ++ second) (codes ")") in
    let d = length-append (codes "(" ++ text_of (place i) ++ op) second in
    let e = length-append (codes "(" ++ text_of (place i)) op in
    omega (arith, a, c, d, e, low, high)

move_small : (i j : ℕ) → i < 64 → j < 64 → IsSmall (moves i j)
move_small i j few few' = record {
  printable = (tt, (place_printable i few, (tt, place_printable j few')));
  size = omega arith;
  short =
      let s = place_short j few' in
      let next : length (codes "X " ++ text_of (place j)) ≤ 5 = omega (arith, s) in
      let h = both_short (codes " -> ") (codes "X " ++ text_of (place j)) i few (omega arith) next in
      omega (arith, h);
}

return_small : (i : ℕ) → i < 64 → IsSmall (returns i)
return_small i few = record {
  printable = (tt, (tt, place_printable i few));
  size = omega arith;
  short = let h = place_short i few in omega (arith, h);
}

apart_small : (i j : ℕ) → i < 64 → j < 64 → IsSmall (apart i j)
apart_small i j few few' = record {
  printable = (tt, (tt, (place_printable i few, place_printable j few')));
  size = omega arith;
  short =
      let s = place_short j few' in
      let h = both_short (codes " & ") (text_of (place j)) i few (omega arith) (omega (arith, s)) in
      omega (arith, h);
}

behind_few : (n i : ℕ) → i < n → n ≤ 64 → place_behind n i < 64
behind_few n i within few = go (nat_lt (i + 1) n) refl
  where
    go : (t : Bool) → nat_lt (i + 1) n ≡ t → (if t then i + 1 else 0) < 64
    go true e = let lt : i + 1 < n = grind (arith, nat_tests) in omega (arith, lt, few)
    go false e = omega arith

parts_small : (n : ℕ) → n ≤ 64 → AreSmall (ring_parts n)
parts_small n few =
    let goes = below n (λ i. moves i (place_behind n i) ∷ []) in
    let comes = below n (λ i. returns i ∷ []) in
    let away = below n (apart_from_later n) in
    let go = small_below n (λ i. moves i (place_behind n i) ∷ [])
    (λ i lt. (move_small i (place_behind n i) (omega (arith, lt, few)) (behind_few n i lt few), tt)) in
    let come = small_below n (λ i. returns i ∷ []) (λ i lt. (return_small i (omega (arith, lt, few)), tt)) in
    let stay = small_below n (apart_from_later n) (λ i lt. small_below (n - (i + 1)) (λ k. apart i (i + 1 + k) ∷ []) (λ k less. (
      apart_small i (i + 1 + k) (omega (arith, lt, few)) (omega (arith, lt, few, less)),
      tt,
    ))) in
    small_append (goes ++ comes) away (small_append goes comes go come) stay

-- ---- the ring

joined_printable : (f : Formula) (gs : List Formula) → IsPrintable f → AreSmall gs → IsPrintable (joined f gs)
joined_printable f [] first all = first
joined_printable f (g ∷ gs) first (small, all) = joined_printable (Binary two.And f g) gs (first, small.printable) all

joined_size : (f : Formula) (gs : List Formula) → AreSmall gs → formula_size (joined f gs) ≤ formula_size f + 6 * length gs
joined_size f [] all = omega arith
joined_size f (g ∷ gs) (small, all) =
    let h = joined_size (Binary two.And f g) gs all in
    let s = small.size in
    omega (arith, h, s)

joined_short : (f : Formula) (gs : List Formula) → AreSmall gs → length (text_of (joined f gs)) ≤ length (text_of f) + 35 * length gs
joined_short f [] all = omega arith
joined_short f (g ∷ gs) (small, all) =
    let h = joined_short (Binary two.And f g) gs all in
    let s = small.short in
    let c = length-append (codes "(" ++ text_of f ++ codes " & " ++ text_of g) (codes ")") in
    let d = length-append (codes "(" ++ text_of f ++ codes " & ") (text_of g) in
    let e = length-append (codes "(" ++ text_of f) (codes " & ") in
    omega (arith, h, s, c, d, e)

pub ring_accepted : (n : ℕ) → n ≤ 64 → ((f : Formula) → IsPrintable f → ReadsText (text_of f) f) → IsAccepted (text_of (ring n)) (ring n)
ring_accepted n few reads =
    let all = parts_small n few in
    let count = few_parts n few in
    let first = place_printable 0 (omega arith) in
    let size = joined_size (place 0) (ring_parts n) all in
    let long = joined_short (place 0) (ring_parts n) all in
    let zero_short = place_short 0 (omega arith) in
    record {
      short = omega (arith, long, count, zero_short);
      reads = reads (ring n) (joined_printable (place 0) (ring_parts n) first all);
      few = omega (arith, size, count);
    }
