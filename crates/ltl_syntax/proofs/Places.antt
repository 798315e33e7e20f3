-- The formula at a place, what adding a place keeps, and which places are kept as they are gone over in order.
use Rattle.std.proofs.Common.{◌≡◌, ℕ, zero, suc, ◌+◌, ◌-◌, ◌<◌, ◌≤◌, ◌⊎◌, inl, inr, subst, ap, ap₂, arith, sym, refl, ◌∙◌, Bool, true, false, not, ◌&&◌, ◌==◌}
use Rattle.std.proofs.Common.{IsTrue, IsFalse, ltb, lt-ltb, le-ltb, eq-eqb, [], ◌∷◌}
use Rattle.std.proofs.lemmas.Bool.{cases_Bool, cases_lt, cases_order, cond-true, cond-false, ltb-true, eqb-true, and_parts, and_from, or_cases, or_left}
use Rattle.std.proofs.lemmas.Bool.{or_right, not_from_false, not-true}
use mathlib.Core.Path.{fun_ext}
use Rattle.ltl_syntax.specs.Formula.{Fresh, Formula, Const, Letter, Unary, Binary, nodes_in}
use Rattle.ltl_syntax.specs.Replacement.{Places, nowhere, AreSame, part_at, size_at, IsUnder, is_under, replaced_from, rep_from, rep, AreApart, IsKept, IsClear}
use Rattle.ltl_syntax.specs.Replacement.{added}

-- ---- sets

pub one_set : (P Q : Places) → AreSame P Q → P ≡ Q
one_set P Q h = fun_ext h

pub same_rep : (f : Formula) (P Q : Places) → AreSame P Q → rep f P ≡ rep f Q
same_rep f P Q h = ap (rep f) (one_set P Q h)

nothing_from : (f : Formula) (at next : ℕ) → rep_from nowhere at next f ≡ f
nothing_from (Const b) at next = refl
nothing_from (Letter p) at next = refl
nothing_from (Unary op a) at next = ap (Unary op) (nothing_from a (suc at) next)
nothing_from (Binary op a b) at next = ap₂ (Binary op) (nothing_from a (suc at) next) (nothing_from b _ _)

-- the formula with nothing replaced is itself
pub nothing_replaced : (f : Formula) → rep f nowhere ≡ f
nothing_replaced f = nothing_from f 0 0

-- ---- the formula at a place

pub nodes_some : (f : Formula) → 0 < nodes_in f
nodes_some (Const b) = omega arith
nodes_some other = omega arith

pub part_left : (op : _) (a b : Formula) (n : ℕ) → n < nodes_in a → part_at (Binary op a b) (suc n) ≡ part_at a n
part_left op a b n lt = cond-true _ _ _ (lt-ltb n (nodes_in a) lt)

pub part_right : (op : _) (a b : Formula) (n : ℕ) → nodes_in a ≤ n → part_at (Binary op a b) (suc n) ≡ part_at b (n - nodes_in a)
part_right op a b n le = cond-false _ _ _ (le-ltb n (nodes_in a) le)

-- what stands at a place ends within the formula
pub part_within : (f : Formula) (n : ℕ) → n < nodes_in f → n + nodes_in (part_at f n) ≤ nodes_in f
part_within f zero lt = omega arith
part_within (Const b) (suc n) lt = absurd (omega arith)
part_within (Letter p) (suc n) lt = absurd (omega arith)
part_within (Unary op a) (suc n) lt = let i = part_within a n (omega arith) in omega arith
part_within (Binary op a b) (suc n) lt = elim (cases_lt n (nodes_in a)) [
  | inl before ↦ let e = ap nodes_in (part_left op a b n before) in let i = part_within a n before in omega arith
  | inr after ↦ let e = ap nodes_in (part_right op a b n after) in let i = part_within b (n - nodes_in a) (omega arith) in omega arith
]

-- the part of a part is a part
pub part_of_part : (f : Formula) (n j : ℕ) → j < nodes_in (part_at f n) → part_at f (n + j) ≡ part_at (part_at f n) j
part_of_part f zero j lt = let here : zero + j ≡ j = omega arith in ap (part_at f) here
part_of_part (Const b) (suc n) zero lt = let here : suc n + zero ≡ suc n = omega arith in ap (part_at (Const b)) here
part_of_part (Const b) (suc n) (suc j) lt = absurd (omega arith)
part_of_part (Letter p) (suc n) zero lt = let here : suc n + zero ≡ suc n = omega arith in ap (part_at (Letter p)) here
part_of_part (Letter p) (suc n) (suc j) lt = absurd (omega arith)
part_of_part (Unary op a) (suc n) j lt = let here : suc n + j ≡ suc (n + j) = omega arith in ap (part_at (Unary op a)) here ∙ part_of_part a n j lt
part_of_part (Binary op a b) (suc n) j lt = elim (cases_lt n (nodes_in a)) [
  | inl before ↦
      let e = part_left op a b n before in
      let lt' : j < nodes_in (part_at a n) = subst (λ g. j < nodes_in g) e lt in
      let w = part_within a n before in
      let here : suc n + j ≡ suc (n + j) = omega arith in
      ap (part_at (Binary op a b)) here ∙ (part_left op a b (n + j) (omega arith) ∙ (part_of_part a n j lt' ∙ sym (ap (λ g. part_at g j) e)))
  | inr after ↦
      let e = part_right op a b n after in
      let lt' : j < nodes_in (part_at b (n - nodes_in a)) = subst (λ g. j < nodes_in g) e lt in
      let here : suc n + j ≡ suc (n + j) = omega arith in
      let there : n + j - nodes_in a ≡ n - nodes_in a + j = omega arith in
      ap (part_at (Binary op a b)) here
      ∙ (part_right op a b (n + j) (omega arith) ∙ (ap (part_at b) there ∙ (part_of_part b (n - nodes_in a) j lt' ∙ sym (ap (λ g. part_at g j) e))))
]

-- ---- under

module _ (f : Formula) where
  pub under_true : (n m : ℕ) → is_under f n m ≡ true → IsUnder f n m
  under_true n m e = let w = and_parts (ltb m n) (ltb n (m + nodes_in (part_at f m))) e in (ltb-true m n w.0, ltb-true n (m + nodes_in (part_at f m)) w.1)

  pub under_from : (n m : ℕ) → IsUnder f n m → is_under f n m ≡ true
  under_from n m w = and_from (ltb m n) (ltb n (m + nodes_in (part_at f m))) (lt-ltb m n w.0) (lt-ltb n (m + nodes_in (part_at f m)) w.1)

  -- where a place under another ends, the other has not ended before
  pub ends_within : (m n : ℕ) → IsUnder f m n → m + nodes_in (part_at f m) ≤ n + nodes_in (part_at f n)
  ends_within m n w =
      let a = w.0 in
      let b = w.1 in
      let here : n + (m - n) ≡ m = omega arith in
      let e : part_at f m ≡ part_at (part_at f n) (m - n) = ap (part_at f) (sym here) ∙ part_of_part f n (m - n) (omega arith) in
      let d = ap nodes_in e in
      let i = part_within (part_at f n) (m - n) (omega arith) in omega arith

  pub under_under : (k m n : ℕ) → IsUnder f k m → IsUnder f m n → IsUnder f k n
  under_under k m n v w =
      let a = v.0 in
      let b = v.1 in
      let c = w.0 in
      let d = ends_within m n w in
      (omega arith, omega arith)

  -- ---- adding a place

  module _ (P : Places) (n : ℕ) where
    pub added_self : IsTrue (added f P n n)
    added_self = or_left (n == n) (P n && not (is_under f n n)) (eq-eqb n n refl)

    pub added_other : (k : ℕ) → IsTrue (P k) → (IsUnder f k n → ⊥) → IsTrue (added f P n k)
    added_other k p h = or_right (k == n) (P k && not (is_under f k n))
        (and_from (P k) (not (is_under f k n)) p (not_from_false (is_under f k n) (elim (cases_Bool (is_under f k n)) [
          | inl e ↦ absurd (h (under_true k n e))
          | inr e ↦ e
        ])))

    pub added_cases : (k : ℕ) → IsTrue (added f P n k) → (k ≡ n) ⊎ (IsTrue (P k) × (IsUnder f k n → ⊥))
    added_cases k e = elim (or_cases (k == n) (P k && not (is_under f k n)) e) [
      | inl a ↦ inl (eqb-true k n a)
      | inr b ↦
          let w = and_parts (P k) (not (is_under f k n)) b in
          inr (w.0, λ u. let x = under_from k n u in let y = not-true (is_under f k n) w.1 in cc)
    ]

    -- what is kept afterwards was kept before
    pub kept_before : (k : ℕ) → IsKept f (added f P n) k → IsKept f P k
    kept_before k h = record {
      there = h.there;
      free = elim (cases_Bool (P k)) [
        | inr e ↦ e
        | inl e ↦ elim (cases_Bool (is_under f k n)) [
          | inl u ↦ absurd (h.above n added_self (under_true k n u))
          | inr u ↦ let x = added_other k e (λ v. let y = under_from k n v in cc) in let y = h.free in cc
        ]
      ];
      above = λ m p u. elim (cases_Bool (is_under f m n)) [
        | inl v ↦ h.above n added_self (under_under k m n u (under_true m n v))
        | inr v ↦ h.above m (added_other m p (λ x. let y = under_from m n x in cc)) u
      ];
    }

    pub not_kept_after : IsKept f (added f P n) n → ⊥
    not_kept_after h = let x = added_self in let y = h.free in cc

    -- adding a kept place leaves the places apart
    pub apart_after : AreApart f P → IsKept f P n → AreApart f (added f P n)
    apart_after h kept = record {
      there = λ k e. elim (added_cases k e) [
        | inl same ↦ let t = kept.there in omega arith
        | inr w ↦ h.there k w.0
      ];
      apart = λ k m e d u. elim (added_cases k e) [
        | inl same ↦ elim (added_cases m d) [
          | inl also ↦ let x = u.0 in omega arith
          | inr v ↦ kept.above m v.0 (subst (λ z. IsUnder f z m) same u)
        ]
        | inr w ↦ elim (added_cases m d) [
          | inl also ↦ w.1 (subst (λ z. IsUnder f k z) also u)
          | inr v ↦ h.apart k m w.0 v.0 u
        ]
      ];
    }

pub nowhere_apart : (f : Formula) → AreApart f nowhere
nowhere_apart f = record { there = λ n e. cc; apart = λ n m e d u. cc }

-- two tests with one meaning are one
same_test : (a b : Bool) → (a ≡ true → b ≡ true) → (b ≡ true → a ≡ true) → a ≡ b
same_test true b h k = sym (h refl)
same_test false true h k = k refl
same_test false false h k = refl

pub added_by_marks : (f : Formula) (P Q : Places) (n : ℕ) → IsTrue (Q n) → ((k : ℕ) → n < k → k < n + size_at f n → IsFalse (Q k))
    → ((k : ℕ) → k < n → Q k ≡ P k) → ((k : ℕ) → n + size_at f n ≤ k → Q k ≡ P k) → AreSame Q (added f P n)
added_by_marks f P Q n here under before behind k = elim (cases_order k n) [
  | inl same ↦ subst (λ z. Q z ≡ added f P n z) (sym same) (here ∙ sym (added_self f P n))
  | inr w ↦ elim w [
    | inl lt ↦ same_test (Q k) (added f P n k) (λ q. added_other f P n k (sym (before k lt) ∙ q) (λ u. let a = u.0 in omega arith))
        (λ a. elim (added_cases f P n k a) [
          | inl same ↦ absurd (omega arith)
          | inr v ↦ before k lt ∙ v.0
        ])
    | inr gt ↦ elim (cases_lt k (n + size_at f n)) [
      | inl inside ↦ same_test (Q k) (added f P n k) (λ q. let x = under k gt inside in cc) (λ a. elim (added_cases f P n k a) [
        | inl same ↦ absurd (omega arith)
        | inr v ↦ absurd (v.1 (gt, inside))
      ])
      | inr past ↦ same_test (Q k) (added f P n k) (λ q. added_other f P n k (sym (behind k past) ∙ q) (λ u. let a = u.1 in omega arith))
          (λ a. elim (added_cases f P n k a) [
            | inl same ↦ absurd (omega arith)
            | inr v ↦ behind k past ∙ v.0
          ])
    ]
  ]
]

-- ---- going over the places in order

module _ (f : Formula) (P : Places) (at : ℕ) (clear : IsClear f P at) where
  pub clear_kept : at < nodes_in f → IsFalse (P at) → IsKept f P at
  clear_kept lt free = record { there = lt; free = free; above = λ m p u. let e = clear m u.0 p in let d = u.1 in omega arith }

  pub clear_next : IsFalse (P at) → IsClear f P (suc at)
  clear_next free m lt p = elim (cases_lt m at) [
    | inl before ↦ let e = clear m before p in omega arith
    | inr here ↦ let same : m ≡ at = omega arith in let x = subst (λ k. IsTrue (P k)) same p in cc
  ]

  pub clear_behind : AreApart f P → IsTrue (P at) → IsClear f P (at + size_at f at)
  clear_behind apart member m lt p = elim (cases_order m at) [
    | inl same ↦ let d = ap (size_at f) same in omega arith
    | inr w ↦ elim w [
      | inl before ↦ let e = clear m before p in omega arith
      | inr under ↦ absurd (apart.apart m at p member (under, lt))
    ]
  ]

  pub clear_after : IsClear f (added f P at) (at + size_at f at)
  clear_after m lt p = elim (cases_order m at) [
    | inl same ↦ let d = ap (size_at f) same in omega arith
    | inr w ↦ elim w [
      | inl before ↦ elim (added_cases f P at m p) [
        | inl same ↦ let d = ap (size_at f) same in omega arith
        | inr v ↦ let e = clear m before v.0 in omega arith
      ]
      | inr under ↦ elim (added_cases f P at m p) [
        | inl same ↦ let d = ap (size_at f) same in omega arith
        | inr v ↦ absurd (v.1 (under, lt))
      ]
    ]
  ]

-- ---- what replacement does at a place of the set, and at another

module _ (P : Places) where
  pub replaced-cut : (at : ℕ) (f : Formula) → P at ≡ true → replaced_from P at f ≡ f ∷ []
  replaced-cut at (Const b) e = cond-true _ _ _ e
  replaced-cut at other e = cond-true _ _ _ e

  pub rep-cut : (at next : ℕ) (f : Formula) → P at ≡ true → rep_from P at next f ≡ Letter (Fresh next)
  rep-cut at next (Const b) e = cond-true _ _ _ e
  rep-cut at next other e = cond-true _ _ _ e
