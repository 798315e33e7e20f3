-- How much room the blocks of a class have: each class has more than the one before, and the greatest has a
-- number of 32 bits.
use Rattle.std.proofs.Common.{◌≡◌, ℕ, ◌+◌, ◌-◌, ◌*◌, ◌/◌, ◌%◌, ◌<◌, ◌≤◌, ◌^◌, suc, inl, inr, cond, sym, ap, ◌∙◌, subst, arith}
use Rattle.std.proofs.lemmas.Bool.{cases_eq, ne_eqb}
use Rattle.std.proofs.lemmas.Nat.{pow_pos}
use Rattle.std.proofs.Math.Nat.{pow-suc, mul-le-mul_right, mod-eq_of_lt}
use Rattle.std.proofs.Math.Pow.{pow-lt}
use Rattle.cdcl_watches.specs.Pool.{room_of}

-- the number of watchers that have room in a block whose class is one more
abbrev room_behind : ℕ → ℕ
room_behind n = (2 + n % 2) * 2 ^ (n / 2)

-- a block that has room has as much as its class says
pub room_is : (c : ℕ) → 0 < c → room_of c ≡ room_behind (c - 1)
room_is c some = ap (λ b. cond b 0 (room_behind (c - 1))) (ne_eqb c 0 (λ e. omega (arith, some, e)))

-- of two classes that follow one another the first has a power of two, and the second half as much again
room_even : (q n : ℕ) → n ≡ 2 * q → room_behind n ≡ 2 * 2 ^ q
room_even q n is =
    let left : n % 2 ≡ 0 = omega (arith, is) in
    let half : n / 2 ≡ q = omega (arith, is) in
    ap (λ (r : ℕ). (2 + r) * 2 ^ (n / 2)) left ∙ ap (λ (h : ℕ). 2 * 2 ^ h) half

room_odd : (q n : ℕ) → n ≡ 2 * q + 1 → room_behind n ≡ 3 * 2 ^ q
room_odd q n is =
    let left : n % 2 ≡ 1 = omega (arith, is) in
    let half : n / 2 ≡ q = omega (arith, is) in
    ap (λ (r : ℕ). (2 + r) * 2 ^ (n / 2)) left ∙ ap (λ (h : ℕ). 3 * 2 ^ h) half

room_next : (n : ℕ) → room_behind n < room_behind (n + 1)
room_next n =
    let q = n / 2 in
    let next : q + 1 ≡ suc q = omega arith in
    let twice : 2 ^ (q + 1) ≡ 2 ^ q * 2 = ap (λ (h : ℕ). 2 ^ h) next ∙ pow-suc 2 q in
    let some = pow_pos q in
    elim (cases_eq (n % 2) 0) [
      | inl even ↦ omega (arith, some, room_even q n (omega (arith, even)), room_odd q (n + 1) (omega (arith, even)))
      | inr odd ↦ omega (arith, some, twice, room_odd q n (omega (arith, odd)), room_even (q + 1) (n + 1) (omega (arith, odd)))
    ]

pub room_more : (c : ℕ) → room_of c < room_of (c + 1)
room_more c = elim (cases_eq c 0) [
  | inl none ↦ subst (λ n. room_of n < room_of (n + 1)) (sym none) (omega arith)
  | inr off ↦
      let some : 0 < c = omega (arith, off) in
      let before : c - 1 + 1 ≡ c = omega (arith, some) in
      let behind : c + 1 - 1 ≡ c = omega arith in
      omega (arith, room_is c some, room_is (c + 1) (omega arith), room_next (c - 1), ap room_behind before, ap room_behind behind)
]

-- up to the class 62 the room has a number of 32 bits
room_fits : (n : ℕ) → n < 62 → room_behind n < 2 ^ 32
room_fits n few =
    let three : 2 + n % 2 ≤ 3 = omega arith in
    let at_most : room_behind n ≤ 3 * 2 ^ (n / 2) = mul-le-mul_right (2 ^ (n / 2)) three in
    elim (cases_eq (n / 2) 30) [
      | inl last ↦
          let here : 2 ^ (n / 2) ≡ 2 ^ 30 = ap (λ (h : ℕ). 2 ^ h) last in
          omega (arith, at_most, here)
      | inr off ↦
          let under : n / 2 < 30 = omega (arith, few, off) in
          let less : 2 ^ (n / 2) < 2 ^ 30 = pow-lt under in
          omega (arith, at_most, less)
    ]

-- so the code comes to it
pub room_found : (c : ℕ) → 0 < c → c < 63 → (2 + (c - 1) % 2) * 2 ^ ((c - 1) / 2) % 2 ^ 32 ≡ room_of c
room_found c some few = mod-eq_of_lt (room_fits (c - 1) (omega (arith, some, few))) ∙ sym (room_is c some)
