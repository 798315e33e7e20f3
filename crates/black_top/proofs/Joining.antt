-- The text of the ring: opening parentheses, `p0`, and then the text of each part.
use Rattle.std.proofs.Common.{◌≡◌, ◌∙◌, ℕ, zero, suc, ◌+◌, ◌-◌, ◌*◌, ◌/◌, ◌≤◌, List, [], ◌∷◌, ◌++◌, length, replicate, refl, sym, ap, ap₂, subst, arith}
use Rattle.std.proofs.Common.{add-one, append_assoc, length-append}
use Rattle.std.specs.Prelude.{codes}
use Rattle.std.specs.List.{flat_map}
use Rattle.std.proofs.lemmas.Grind.{flat_map-append}
use Rattle.std.proofs.lemmas.List.{append-nil}
use Rattle.std.proofs.Math.Nat.{mul-le-mul_right}
use Rattle.ltl_syntax.specs.declared.node.BinaryOp.TheVariants as two
use Rattle.ltl_syntax.specs.Formula.{Formula, Binary}
use Rattle.ltl_syntax.specs.Print.{text_of}
use Rattle.enc_layout.specs.Letters.{below}
use Rattle.enc_layout.proofs.ByIndex.{below_same}
use Rattle.black_top.specs.Demo.{place, moves, returns, apart, place_behind, apart_from_later, ring_parts, joined, ring}
use Rattle.black_top.specs.Ring.{part_text, move_text, return_text, later_text}

-- ---- pieces that are put behind others

pub below_more : {X : Type 0} (k : ℕ) (g : ℕ → List X) → below (k + 1) g ≡ below k g ++ g k
below_more k g = ap (λ n. below n g) (add-one k)

-- the next piece
pub piece_behind : (old text new : List ℕ) (k : ℕ) (g : ℕ → List ℕ) → text ≡ old ++ below k g → new ≡ text ++ g k → new ≡ old ++ below (k + 1) g
piece_behind old text new k g before is =
    is ∙ ap (λ t. t ++ g k) before ∙ append_assoc old (below k g) (g k) ∙ ap (λ t. old ++ t) (sym (below_more k g))

-- ---- the text of a conjunction

opening_moved : (n : ℕ) (text : List ℕ) → replicate n 40 ++ 40 ∷ text ≡ 40 ∷ (replicate n 40 ++ text)
opening_moved zero text = refl
opening_moved (suc n) text = ap (λ t. 40 ∷ t) (opening_moved n text)

and_text : (f g : Formula) (rest : List ℕ) → text_of (Binary two.And f g) ++ rest ≡ 40 ∷ (text_of f ++ (part_text g ++ rest))
and_text f g rest =
    let a = text_of f in
    let b = codes " & " in
    let c = text_of g in
    let d = codes ")" in
    let whole = append_assoc (a ++ b ++ c) d rest ∙ append_assoc (a ++ b) c (d ++ rest) ∙ append_assoc a b (c ++ (d ++ rest)) in
    let part = append_assoc (b ++ c) d rest ∙ append_assoc b c (d ++ rest) in
    ap (λ t. 40 ∷ t) (whole ∙ ap (λ t. a ++ t) (sym part))

pub text_joined : (f : Formula) (gs : List Formula) → text_of (joined f gs) ≡ replicate (length gs) 40 ++ (text_of f ++ flat_map part_text gs)
text_joined f [] = sym (append-nil (text_of f))
text_joined f (g ∷ gs) =
    let more = replicate (length gs) 40 in
    text_joined (Binary two.And f g) gs
    ∙ ap (λ t. more ++ t) (and_text f g (flat_map part_text gs))
    ∙ opening_moved (length gs) (text_of f ++ (part_text g ++ flat_map part_text gs))

-- ---- the text of the parts

flat_below : (n : ℕ) (g : ℕ → List Formula) → flat_map part_text (below n g) ≡ below n (λ i. flat_map part_text (g i))
flat_below zero g = refl
flat_below (suc n) g = flat_map-append part_text (below n g) (g n) ∙ ap (λ t. t ++ flat_map part_text (g n)) (flat_below n g)

flat_each : (n : ℕ) (g : ℕ → Formula) → flat_map part_text (below n (λ i. g i ∷ [])) ≡ below n (λ i. part_text (g i))
flat_each n g = flat_below n (λ i. g i ∷ []) ∙ below_same n (λ i. flat_map part_text (g i ∷ [])) (λ i. part_text (g i)) (λ i lt. append-nil (part_text (g i)))

flat_later : (n : ℕ) → flat_map part_text (below n (apart_from_later n)) ≡ below n (later_text n)
flat_later n = flat_below n (apart_from_later n)
    ∙ below_same n (λ i. flat_map part_text (apart_from_later n i)) (later_text n) (λ i lt. flat_each (n - (i + 1)) (λ k. apart i (i + 1 + k)))

parts_text : (n : ℕ) → flat_map part_text (ring_parts n) ≡ below n (move_text n) ++ (below n return_text ++ below n (later_text n))
parts_text n =
    let goes = below n (λ i. moves i (place_behind n i) ∷ []) in
    let comes = below n (λ i. returns i ∷ []) in
    let away = below n (apart_from_later n) in
    flat_map-append part_text (goes ++ comes) away
    ∙ ap₂ ◌++◌ (flat_map-append part_text goes comes ∙ ap₂ ◌++◌ (flat_each n (λ i. moves i (place_behind n i))) (flat_each n returns)) (flat_later n)
    ∙ append_assoc (below n (move_text n)) (below n return_text) (below n (later_text n))

-- ---- how many parts there are

length_each : {X : Type 0} (n : ℕ) (g : ℕ → X) → length (below n (λ i. g i ∷ [])) ≡ n
length_each zero g = refl
length_each (suc n) g =
    let e = length-append (below n (λ i. g i ∷ [])) (g n ∷ []) in
    let more = length_each n g in
    omega (arith, e, more)

length_later : (n m : ℕ) → m ≤ n → 2 * length (below m (apart_from_later n)) + m * m + m ≡ 2 * m * n
length_later n zero within = omega arith
length_later n (suc m) within =
    let e = length-append (below m (apart_from_later n)) (apart_from_later n m) in
    let last = length_each (n - (m + 1)) (λ k. apart m (m + 1 + k)) in
    let before = length_later n m (omega (arith, within)) in
    omega (arith, e, last, before, within)

pub length_parts : (n : ℕ) → 2 * length (ring_parts n) + n ≡ n * n + 4 * n
length_parts n =
    let goes = below n (λ i. moves i (place_behind n i) ∷ []) in
    let comes = below n (λ i. returns i ∷ []) in
    let away = below n (apart_from_later n) in
    let e = length-append (goes ++ comes) away in
    let d = length-append goes comes in
    let a = length_each n (λ i. moves i (place_behind n i)) in
    let b = length_each n returns in
    let c = length_later n n (omega arith) in
    omega (arith, e, d, a, b, c)

pub few_parts : (n : ℕ) → n ≤ 64 → length (ring_parts n) ≤ 2144
few_parts n few =
    let e = length_parts n in
    let low : n * n ≤ 64 * n = mul-le-mul_right n few in
    omega (arith, e, low, few)

squared : (m : ℕ) → (m + 1) * m + (m + 1) ≡ (m + 1) * (m + 1)
squared m = omega arith

pub count_parts : (n : ℕ) → 2 ≤ n → length (ring_parts n) ≡ 2 * n + n * (n - 1) / 2
count_parts n some =
    let e = length_parts n in
    let before : n - 1 + 1 ≡ n = omega (arith, some) in
    let square : n * (n - 1) + n ≡ n * n = subst (λ k. k * (n - 1) + k ≡ k * k) before (squared (n - 1)) in
    omega (arith, e, square)

-- ---- the text of the ring

pub ring_text : (n count : ℕ) (opened first gone come whole : List ℕ) → 2 ≤ n → count ≡ 2 * n + n * (n - 1) / 2
    → opened ≡ [] ++ replicate count 40 → first ≡ opened ++ text_of (place 0) → gone ≡ first ++ below n (move_text n)
    → come ≡ gone ++ below n return_text → whole ≡ come ++ below n (later_text n) → whole ≡ text_of (ring n)
ring_text n count opened first gone come whole some is o f g c w =
    let start = replicate count 40 in
    let zeroth = text_of (place 0) in
    let a = below n (move_text n) in
    let b = below n return_text in
    let d = below n (later_text n) in
    let built : whole ≡ (((start ++ zeroth) ++ a) ++ b) ++ d =
    w ∙ ap (λ t. t ++ d) (c ∙ ap (λ t. t ++ b) (g ∙ ap (λ t. t ++ a) (f ∙ ap (λ t. t ++ zeroth) o))) in
    let grouped : (((start ++ zeroth) ++ a) ++ b) ++ d ≡ start ++ (zeroth ++ (a ++ (b ++ d))) =
    append_assoc ((start ++ zeroth) ++ a) b d ∙ append_assoc (start ++ zeroth) a (b ++ d) ∙ append_assoc start zeroth (a ++ (b ++ d)) in
    built ∙ grouped
    ∙ ap₂ (λ k t. replicate k 40 ++ (zeroth ++ t)) (is ∙ sym (count_parts n some)) (sym (parts_text n))
    ∙ sym (text_joined (place 0) (ring_parts n))
