-- The states before a number, as those that pass a test for each of some eventualities, and the nearest one of them.
use Rattle.std.proofs.Common.{◌≡◌, ℕ, zero, suc, ◌+◌, ◌<◌, ◌≤◌, Bool, true, false, not, ◌&&◌, ◌||◌, inl, inr, refl, sym, ap, ap₂, ◌∙◌, arith, min, Option, Some}
use Rattle.std.proofs.Common.{None}
use Rattle.std.specs.Prelude.{nat_lt}
use Rattle.std.proofs.lemmas.Bool.{cases_lt, lt-ltb, le-ltb}
use Rattle.demand.specs.Values.{passes_below}
use Rattle.demand.specs.Nearest.{prefer, nearest, where_true}
use Rattle.demand.proofs.Finding.{nearest_same}

joined : (a b c d e : Bool) → a ≡ (b && c) → d ≡ e → (a && d) ≡ (b && (c && e))
joined a b c d e h k = grind arith

on : (a b : Bool) → b ≡ true → (a && b) ≡ a
on a b h = grind arith

off : (a b : Bool) → b ≡ false → (a && b) ≡ false
off a b h = grind arith

behind : (a b c : Bool) → a ≡ (b && c) → b ≡ true → c ≡ a
behind a b c h k = grind arith

lt_min : (n a b : ℕ) → nat_lt n (min a b) ≡ (nat_lt n a && nat_lt n b)
lt_min n a b = elim (cases_lt n a) [
  | inl below ↦ elim (cases_lt n b) [
    | inl less ↦ lt-ltb n (min a b) (omega arith) ∙ sym (ap₂ ◌&&◌ (lt-ltb n a below) (lt-ltb n b less))
    | inr more ↦ le-ltb n (min a b) (omega arith) ∙ sym (ap₂ ◌&&◌ (lt-ltb n a below) (le-ltb n b more))
  ]
  | inr above ↦ le-ltb n (min a b) (omega arith) ∙ sym (ap (λ z. z && nat_lt n b) (le-ltb n a above))
]

passes_next : (m : ℕ) (test : ℕ → Bool) → passes_below (m + 1) test ≡ (passes_below m test && test m)
passes_next m test = let e : m + 1 ≡ suc m = omega arith in ap (λ j. passes_below j test) e

-- one more eventuality, that bounds the states, or doesn't
module _ (n k before m : ℕ) (test : ℕ → Bool) (so_far : nat_lt n before ≡ (nat_lt n k && passes_below m test)) where
  pub bounded : (d : ℕ) → test m ≡ nat_lt n d → nat_lt n (min before d) ≡ (nat_lt n k && passes_below (m + 1) test)
  bounded d is =
      lt_min n before d
      ∙ (joined (nat_lt n before) (nat_lt n k) (passes_below m test) (nat_lt n d) (test m) so_far (sym is)
      ∙ ap (λ z. nat_lt n k && z) (sym (passes_next m test)))

  pub unbounded : test m ≡ true → nat_lt n before ≡ (nat_lt n k && passes_below (m + 1) test)
  unbounded is = so_far ∙ ap (λ z. nat_lt n k && z) (sym (passes_next m test ∙ on (passes_below m test) (test m) is))

-- the tests of an eventuality by what it is
pub asked_done : (p done lt : Bool) → p ≡ true → done ≡ lt → (not p || done) ≡ lt
asked_done p done lt h e = grind arith

pub unasked : (p done : Bool) → p ≡ false → (not p || done) ≡ true
unasked p done h = grind arith

pub asked_since : (p done lt : Bool) → p ≡ true → done ≡ lt → lt ≡ (p && done)
asked_since p done lt h e = grind arith

pub new_done : (p late early lt : Bool) → (p && late) ≡ true → early ≡ lt → (not p || (not late || early)) ≡ lt
new_done p late early lt h e = grind arith

pub not_new : (p late early : Bool) → (p && late) ≡ false → (not p || (not late || early)) ≡ true
not_new p late early h = grind arith

module _ {X : Type 0} where
  nearest_drop : (n b : ℕ) (found : ℕ → Option X) → b ≤ n → ((i : ℕ) → b ≤ i → i < n → found i ≡ None) → nearest n found ≡ nearest b found
  nearest_drop zero b found le none = let e : zero ≡ b = omega arith in ap (λ j. nearest j found) e
  nearest_drop (suc n) b found le none = elim (cases_lt b (suc n)) [
    | inl below ↦
        ap (λ o. prefer o (nearest n found)) (none n (omega arith) (omega arith))
        ∙ nearest_drop n b found (omega arith) (λ i bi lt. none i bi (omega arith))
    | inr here ↦ let e : suc n ≡ b = omega arith in ap (λ j. nearest j found) e
  ]

  abbrev pub mapped : (ℕ → X) → Option ℕ → Option X
  mapped give (Some n) = Some (give n)
  mapped give None = None

  prefer_mapped : (give : ℕ → X) (b : Bool) (n : ℕ) (o : Option ℕ)
      → prefer (where_true b (Some (give n))) (mapped give o) ≡ mapped give (prefer (where_true b (Some n)) o)
  prefer_mapped give true n o = refl
  prefer_mapped give false n o = refl

  -- what is given for the nearest number that passes
  pub nearest_mapped : (n : ℕ) (test : ℕ → Bool) (give : ℕ → X)
      → nearest n (λ i. where_true (test i) (Some (give i))) ≡ mapped give (nearest n (λ i. where_true (test i) (Some i)))
  nearest_mapped zero test give = refl
  nearest_mapped (suc n) test give =
      ap (prefer (where_true (test n) (Some (give n)))) (nearest_mapped n test give)
      ∙ prefer_mapped give (test n) n (nearest n (λ i. where_true (test i) (Some i)))

  -- where those that pass another test are the ones before a number
  pub nearest_before : (n b : ℕ) (test also : ℕ → Bool) (give : ℕ → X) → b ≤ n → ((i : ℕ) → nat_lt i b ≡ (nat_lt i n && also i))
      → nearest n (λ i. where_true (test i && also i) (Some (give i))) ≡ mapped give (nearest b (λ i. where_true (test i) (Some i)))
  nearest_before n b test also give le same =
      let past : (i : ℕ) → b ≤ i → i < n → also i ≡ false = λ i bi lt. behind (nat_lt i b) (nat_lt i n) (also i) (same i) (lt-ltb i n lt) ∙ le-ltb i b bi in
      let kept : (i : ℕ) → i < b → also i ≡ true = λ i lt. behind (nat_lt i b) (nat_lt i n) (also i) (same i) (lt-ltb i n (omega arith)) ∙ lt-ltb i b lt in
      nearest_drop n b (λ i. where_true (test i && also i) (Some (give i))) le
      (λ i bi lt. ap (λ t. where_true t (Some (give i))) (off (test i) (also i) (past i bi lt)))
      ∙ (nearest_same b (λ i. where_true (test i && also i) (Some (give i))) (λ i. where_true (test i) (Some (give i)))
      (λ i lt. ap (λ t. where_true t (Some (give i))) (on (test i) (also i) (kept i lt)))
      ∙ nearest_mapped b test give)
