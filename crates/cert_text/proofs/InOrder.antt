-- Bytes that are gone over by blocks are numbers: from the lanes of a block to its bytes, and from bytes in order to numbers.
use Rattle.std.proofs.Common.{◌≡◌, ℕ, zero, suc, ◌+◌, ◌-◌, ◌*◌, ◌%◌, ◌^◌, ◌<◌, ◌≤◌, Bool, true, false, not, ◌||◌, List, [], ◌∷◌, length, get_or, map, Fits, w8}
use Rattle.std.proofs.Common.{eqb, leb, cond, bit_or, bit_and, IsTrue, refl, sym, ap, ap₂, ◌∙◌, subst, arith}
use Rattle.std.proofs.Math.Nat.{pow-suc}
use Rattle.std.proofs.lemmas.Bool.{agree_below, agree_below_at, eqb-true, eq-eqb}
use Rattle.std.proofs.lemmas.Simd.{map-map, mask_l-mod, length-chunk, get_or-chunk, get_or-zip2, length-zip2}
use Rattle.std.proofs.lemmas.List.{length-map, get_or-map}
use mathlib.Core.Bool.{false≢true}
use lib.Lanes.{chunk, zip2, mask_l, top}
use Rattle.cert_text.specs.Skipped.{may_stand, AreInOrder, HasNoNought, HasSpace}

-- a full mask has each of its bits
full_mask : (bs : List Bool) → mask_l bs + 1 ≡ 2 ^ length bs → (k : ℕ) → k < length bs → get_or bs k false ≡ true
full_mask [] e k low = absurd (omega (arith, low))
full_mask (true ∷ bs) e zero low = refl
full_mask (true ∷ bs) e (suc k) low =
    let twice : 2 ^ length (true ∷ bs) ≡ 2 ^ length bs * 2 = pow-suc 2 (length bs) in
    full_mask bs (omega (arith, e, twice)) k (omega (arith, low))
full_mask (false ∷ bs) e k low =
    let twice : 2 ^ length (false ∷ bs) ≡ 2 ^ length bs * 2 = pow-suc 2 (length bs) in
    absurd (omega (arith, e, twice))

-- one that is not empty has some bit
some_bit : (bs : List Bool) → 0 < mask_l bs → (k : ℕ) × (k < length bs) × (get_or bs k false ≡ true)
some_bit [] some = absurd (omega (arith, some))
some_bit (true ∷ bs) some = (0, omega arith, refl)
some_bit (false ∷ bs) some = let rest = some_bit bs (omega (arith, some)) in (suc rest.0, omega (arith, rest.1), rest.2)

-- an empty one has none
no_bit : (bs : List Bool) → mask_l bs ≡ 0 → (k : ℕ) → k < length bs → get_or bs k false ≡ false
no_bit [] e k low = absurd (omega (arith, low))
no_bit (true ∷ bs) e k low = absurd (omega (arith, e))
no_bit (false ∷ bs) e zero low = refl
no_bit (false ∷ bs) e (suc k) low = no_bit bs (omega (arith, e)) k (omega (arith, low))

-- two lists side by side
abbrev pub pairs : List ℕ → List ℕ → List (ℕ × ℕ)
pairs = zip2 (λ a b. (a, b))

pub firsts : (xs ys : List ℕ) → length xs ≡ length ys → xs ≡ map (λ t. t.0) (pairs xs ys)
firsts [] ys e = refl
firsts (x ∷ xs) [] e = absurd (omega (arith, e))
firsts (x ∷ xs) (y ∷ ys) e = ap (λ r. x ∷ r) (firsts xs ys (omega (arith, e)))

pub seconds : (xs ys : List ℕ) → length xs ≡ length ys → ys ≡ map (λ t. t.1) (pairs xs ys)
seconds [] [] e = refl
seconds [] (y ∷ ys) e = absurd (omega (arith, e))
seconds (x ∷ xs) [] e = absurd (omega (arith, e))
seconds (x ∷ xs) (y ∷ ys) e = ap (λ r. y ∷ r) (seconds xs ys (omega (arith, e)))

-- the top bit of the lane of a byte
lane_at : (bytes : List ℕ) (at k : ℕ) → 1 ≤ at → at + 16 ≤ length bytes → at ≤ k → k < at + 16 → (z : List ℕ) (f : ℕ × ℕ → ℕ)
    → z ≡ map f (pairs (chunk (at - 1) 16 bytes) (chunk at 16 bytes))
    → get_or (map (λ t. top 7 (f t)) (pairs (chunk (at - 1) 16 bytes) (chunk at 16 bytes))) (k - at) false ≡ top 7
    (f (get_or bytes (k - 1) 0, get_or bytes k 0))
lane_at bytes at k some room from to z f lanes =
    let before = chunk (at - 1) 16 bytes in
    let here = chunk at 16 bytes in
    let long_before : length before ≡ 16 = length-chunk (at - 1) 16 bytes (omega (arith, room)) in
    let long_here : length here ≡ 16 = length-chunk at 16 bytes room in
    let long : length (pairs before here) ≡ 16 = length-zip2 (λ a b. (a, b)) before here (long_before ∙ sym long_here) ∙ long_before in
    let pair : get_or (pairs before here) (k - at) (0, 0) ≡ (get_or before (k - at) 0, get_or here (k - at) 0) =
    get_or-zip2 (λ a b. (a, b)) before here (k - at) 0 0 (0, 0) (omega (arith, long_before, from, to)) (omega (arith, long_here, from, to)) in
    let first : get_or before (k - at) 0 ≡ get_or bytes (k - 1) 0 =
    get_or-chunk (at - 1) 16 bytes (k - at) 0 (omega (arith, from, to)) ∙ ap (λ i. get_or bytes i 0) (omega (arith, some, from)) in
    let second : get_or here (k - at) 0 ≡ get_or bytes k 0 =
    get_or-chunk at 16 bytes (k - at) 0 (omega (arith, from, to)) ∙ ap (λ i. get_or bytes i 0) (omega (arith, from)) in
    get_or-map (λ t. top 7 (f t)) (pairs before here) (k - at) (0, 0) false (omega (arith, long, from, to)) ∙ ap (λ t. top 7 (f t)) pair
    ∙ ap₂ (λ a b. top 7 (f (a, b))) first second

-- the mask of a block, and how many lanes it has
block_mask : (bytes : List ℕ) (at : ℕ) → 1 ≤ at → at + 16 ≤ length bytes → (z : List ℕ) (f : ℕ × ℕ → ℕ)
    → z ≡ map f (pairs (chunk (at - 1) 16 bytes) (chunk at 16 bytes))
    → (length (map (λ t. top 7 (f t)) (pairs (chunk (at - 1) 16 bytes) (chunk at 16 bytes))) ≡ 16)
    × (mask_l (map (top 7) z) % 2 ^ 64 ≡ mask_l (map (λ t. top 7 (f t)) (pairs (chunk (at - 1) 16 bytes) (chunk at 16 bytes))))
block_mask bytes at some room z f lanes =
    let before = chunk (at - 1) 16 bytes in
    let here = chunk at 16 bytes in
    let long_before : length before ≡ 16 = length-chunk (at - 1) 16 bytes (omega (arith, room)) in
    let long_here : length here ≡ 16 = length-chunk at 16 bytes room in
    let long : length (pairs before here) ≡ 16 = length-zip2 (λ a b. (a, b)) before here (long_before ∙ sym long_here) ∙ long_before in
    let sized : length (map (λ t. top 7 (f t)) (pairs before here)) ≡ 16 = length-map (pairs before here) (λ t. top 7 (f t)) ∙ long in (
      sized,
      ap (λ l. mask_l l % 2 ^ 64) (ap (map (top 7)) lanes ∙ map-map (top 7) f (pairs before here))
          ∙ mask_l-mod (map (λ t. top 7 (f t)) (pairs before here)) 64 (omega (arith, sized)),
    )

-- a lane of a block's test, by what the byte before it is
abbrev pub lane : Bool → Bool → ℕ → ℕ
lane digit space b = bit_or (bit_and (cond (leb 49 b) 255 0) (cond (leb b 57) 255 0))
    (bit_or (bit_and (cond digit 255 0) (bit_or (cond (eqb b 48) 255 0) (cond (eqb b 32) 255 0))) (bit_and (cond (eqb b 45) 255 0) (cond space 255 0)))

table : (digit space : Bool) → agree_below (λ b. not (top 7 (lane digit space b)) || may_stand digit space b) (λ _. true) 256 ≡ true
table true true = refl
table true false = refl
table false true = refl
table false false = refl

-- where all top bits of the lanes are set, the bytes are in order
pub in_order : (bytes : List ℕ) (at : ℕ) → 1 ≤ at → at + 16 ≤ length bytes → ((k : ℕ) → Fits w8 (get_or bytes k 0))
    → (z : List ℕ) (f : ℕ × ℕ → ℕ) → z ≡ map f (pairs (chunk (at - 1) 16 bytes) (chunk at 16 bytes))
    → ((a b : ℕ) → f (a, b) ≡ lane (leb 48 a) (eqb a 32) b)
    → mask_l (map (top 7) z) % 2 ^ 64 ≡ 65535 → AreInOrder bytes at (at + 16)
in_order bytes at some room fits z f lanes same mask k from to =
    let tops = map (λ t. top 7 (f t)) (pairs (chunk (at - 1) 16 bytes) (chunk at 16 bytes)) in
    let block = block_mask bytes at some room z f lanes in
    let whole : mask_l tops ≡ 65535 = sym block.1 ∙ mask in
    let set = full_mask tops (subst (λ n. mask_l tops + 1 ≡ 2 ^ n) (sym block.0) (ap (λ n. n + 1) whole)) (k - at) (omega (arith, block.0, from, to)) in
    let a = get_or bytes (k - 1) 0 in
    let b = get_or bytes k 0 in
    let held : top 7 (lane (leb 48 a) (eqb a 32) b) ≡ true = ap (top 7) (sym (same a b)) ∙ sym (lane_at bytes at k some room from to z f lanes) ∙ set in
    let cell = agree_below_at (λ b. not (top 7 (lane (leb 48 a) (eqb a 32) b)) || may_stand (leb 48 a) (eqb a 32) b) (λ _. true) 256 b
    (table (leb 48 a) (eqb a 32)) (fits k).fits in
    sym (ap (λ t. not t || may_stand (leb 48 a) (eqb a 32) b) held) ∙ cell

-- where the lane of a 0 behind a space has the top bit, and no top bit is set, there is none
both_set : (x y : Bool) → x ≡ true → y ≡ true → top 7 (bit_and (cond x 255 0) (cond y 255 0)) ≡ true
both_set true true p q = refl
both_set true false p q = cc
both_set false y p q = cc

pub no_nought : (bytes : List ℕ) (at : ℕ) → 1 ≤ at → at + 16 ≤ length bytes → (z : List ℕ) (f : ℕ × ℕ → ℕ)
    → z ≡ map f (pairs (chunk (at - 1) 16 bytes) (chunk at 16 bytes))
    → ((a b : ℕ) → f (a, b) ≡ bit_and (cond (eqb b 48) 255 0) (cond (eqb a 32) 255 0))
    → mask_l (map (top 7) z) % 2 ^ 64 ≡ 0 → HasNoNought bytes at (at + 16)
no_nought bytes at some room z f lanes same mask k from to nought space =
    let tops = map (λ t. top 7 (f t)) (pairs (chunk (at - 1) 16 bytes) (chunk at 16 bytes)) in
    let block = block_mask bytes at some room z f lanes in
    let none = no_bit tops (sym block.1 ∙ mask) (k - at) (omega (arith, block.0, from, to)) in
    let a = get_or bytes (k - 1) 0 in
    let b = get_or bytes k 0 in
    let held : top 7 (f (a, b)) ≡ true = ap (top 7) (same a b) ∙ both_set (eqb b 48) (eqb a 32) (eq-eqb b 48 nought) (eq-eqb a 32 space) in
    false≢true (sym none ∙ lane_at bytes at k some room from to z f lanes ∙ held)

-- where a lane has the top bit whose byte is a space, and some top bit is set, there is a space
pub spaced : (bytes : List ℕ) (at : ℕ) → at + 8 ≤ length bytes → ((k : ℕ) → Fits w8 (get_or bytes k 0))
    → (z : List ℕ) (f : ℕ → ℕ) → z ≡ map f (chunk at 8 bytes) → agree_below (λ b. not (top 7 (f b)) || eqb b 32) (λ _. true) 256 ≡ true
    → 0 < mask_l (map (top 7) z) % 2 ^ 64 → HasSpace bytes at (at + 8)
spaced bytes at room fits z f lanes all some =
    let here = chunk at 8 bytes in
    let long : length here ≡ 8 = length-chunk at 8 bytes room in
    let tops : map (top 7) z ≡ map (λ b. top 7 (f b)) here = ap (map (top 7)) lanes ∙ map-map (top 7) f here in
    let sized : length (map (λ b. top 7 (f b)) here) ≡ 8 = length-map here (λ b. top 7 (f b)) ∙ long in
    let whole : mask_l (map (top 7) z) % 2 ^ 64 ≡ mask_l (map (λ b. top 7 (f b)) here) =
    ap (λ l. mask_l l % 2 ^ 64) tops ∙ mask_l-mod (map (λ b. top 7 (f b)) here) 64 (omega (arith, sized)) in
    let bit = some_bit (map (λ b. top 7 (f b)) here) (omega (arith, whole, some)) in
    let low : bit.0 < 8 = omega (arith, bit.1, sized) in
    let lane : top 7 (f (get_or here bit.0 0)) ≡ true = sym (get_or-map (λ b. top 7 (f b)) here bit.0 0 false (omega (arith, long, low))) ∙ bit.2 in
    let said : top 7 (f (get_or bytes (at + bit.0) 0)) ≡ true = ap (λ b. top 7 (f b)) (sym (get_or-chunk at 8 bytes bit.0 0 low)) ∙ lane in
    let cell = agree_below_at (λ b. not (top 7 (f b)) || eqb b 32) (λ _. true) 256 (get_or bytes (at + bit.0) 0) all (fits (at + bit.0)).fits in (
      at + bit.0,
      omega arith,
      omega (
        arith,
        low,
      ),
      eqb-true (get_or bytes (at + bit.0) 0) 32 (sym (ap (λ t. not t || eqb (get_or bytes (at + bit.0) 0) 32) said) ∙ cell),
    )

pub positive : (m : ℕ) → IsTrue (not (eqb m 0)) → 0 < m
positive zero is = cc
positive (suc m) is = omega arith

pub full : (m : ℕ) → IsTrue (eqb m 65535) → m ≡ 65535
full m is = eqb-true m 65535 is

pub empty : (m : ℕ) → IsTrue (eqb m 0) → m ≡ 0
empty m is = eqb-true m 0 is
