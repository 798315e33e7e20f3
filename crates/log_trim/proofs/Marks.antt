-- Marks from the last line back to the first reach what is needed, and nothing else.
use Rattle.std.proofs.Common.{◌≡◌, ◌↔◌, IsFalse, ℕ, zero, suc, ◌<◌, ◌≤◌, ◌⊎◌, inl, inr, Bool, true, false, IsTrue, List, [], ◌∷◌, length, take, get_or, set}
use Rattle.std.proofs.Common.{Contains, refl, sym, ap, subst, ◌∙◌, arith}
use Rattle.std.proofs.lemmas.Bool.{cases_lt}
use Rattle.std.proofs.Math.Seq.{take-length}
use Rattle.std.proofs.lemmas.List.{get_or-set_same, get_or-set_other, get_or_past, get_or-take, length-take, length-take-le}
use Rattle.cnf_base.specs.declared.literal.Hint.{Hint}
use Rattle.cnf_base.specs.declared.literal.Hint.TheVariants.{Clause, Line}
use Rattle.derivation.specs.Steps.{DerivationValue, IsDerivation}
use Rattle.log_trim.specs.Kept.{Marks, HasHint, IsClosed}
use Rattle.log_trim.specs.Marking.{marked, IsMarking, IsNeeded, target, named, HasTargets, AreNeeded, AddsHints, IsMarkedFrom, AreTheNeeded, AreLines}
use Rattle.log_trim.proofs.MarkedLines.{hint_earlier}
use Rattle.derivation.proofs.Renaming.{Contains-nil}

equal_or_not : (m n : ℕ) → (m ≡ n) ⊎ (m ≡ n → ⊥)
equal_or_not m n = elim (cases_lt m n) [
  | inl lt ↦ inr (λ e. omega arith)
  | inr le ↦ elim (cases_lt n m) [ inl gt ↦ inr (λ e. omega arith) | inr ge ↦ inl (omega arith) ]
]

pub setting : (flags : List Bool) (k : ℕ) → k < length flags → IsMarking (marked flags) (marked (set flags k true)) (suc k)
setting flags k lt zero = (λ e. absurd (cc), λ h. elim h [ inl e ↦ e | inr e ↦ absurd (omega arith) ])
setting flags k lt (suc n) = elim (equal_or_not n k) [
  | inl e ↦
      let there : get_or (set flags k true) n false ≡ true = ap (λ i. get_or (set flags k true) i false) e ∙ get_or-set_same flags k true false lt in
      (λ h. inr (ap suc e), λ h. there)
  | inr ne ↦
      let other : get_or (set flags k true) n false ≡ get_or flags n false = get_or-set_other flags k n true false ne in
      (λ h. inl (sym other ∙ h), λ h. elim h [ inl e ↦ other ∙ e | inr e ↦ absurd (ne (omega arith)) ])
]

-- what is marked stays so
pub stays : (M N : Marks) (m n : ℕ) → IsMarking M N m → IsTrue (M n) → IsTrue (N n)
stays M N m n marking h = (marking n).1 (inl h)

-- once all hints are read, those of the line are
pub all_added : (M N : Marks) (hints : List Hint) → AddsHints M N hints (length hints) → (n : ℕ) → IsTrue (N n) ↔ (IsTrue (M n) ⊎ Contains hints (Line n))
all_added M N hints adds = subst (λ (l : List Hint). (n : ℕ) → IsTrue (N n) ↔ (IsTrue (M n) ⊎ Contains l (Line n))) (take-length hints) adds

here : (M N : Marks) (m : ℕ) → IsMarking M N m → IsTrue (N m)
here M N m marking = (marking m).1 (inr refl)

-- a member that is read with another default
pub default_moves : {X : Type 0} (xs : List X) (i : ℕ) (x y : X) → i < length xs → get_or xs i x ≡ get_or xs i y
default_moves [] i x y lt = absurd (omega arith)
default_moves (z ∷ xs) zero x y lt = refl
default_moves (z ∷ xs) (suc i) x y lt = default_moves xs i x y (omega arith)

pub moved : {X : Type 0} (xs : List X) (i : ℕ) (d x : X) → i < length xs → get_or xs i d ≡ x → get_or xs i x ≡ x
moved xs i d x lt e = default_moves xs i x d lt ∙ e

pub there : {X : Type 0} (xs : List X) (i : ℕ) (d x : X) → i < length xs → get_or xs i d ≡ x → Contains xs x
there xs i d x lt e = (i, lt, moved xs i d x lt e)

-- the first i members are among the first i + 1, and so is the next one
contains_taken : {X : Type 0} (xs : List X) (i : ℕ) (y : X) → Contains (take i xs) y → Contains (take (suc i) xs) y
contains_taken xs i y c = (
  c.0,
  omega (arith, c.1, length-take i xs, length-take (suc i) xs),
  get_or-take (suc i) xs c.0 y (omega (
    arith,
    c.1,
    length-take i xs,
  )) ∙ (sym (get_or-take i xs c.0 y (omega (arith, c.1, length-take i xs))) ∙ c.2),
)

contains_next : {X : Type 0} (xs : List X) (i : ℕ) (y : X) → i < length xs → get_or xs i y ≡ y → Contains (take (suc i) xs) y
contains_next xs i y lt e = (i, omega (arith, length-take-le (suc i) xs (omega arith)), get_or-take (suc i) xs i y (omega arith) ∙ e)

-- what is contained in the first i + 1 members is so in the first i, or is the next one
pub contains_more : {X : Type 0} (xs : List X) (i : ℕ) (x y : X) → i < length xs → get_or xs i x ≡ x → Contains (take (suc i) xs) y
    → Contains (take i xs) y ⊎ (x ≡ y)
contains_more xs i x y lt at c =
    let few : length (take (suc i) xs) ≡ suc i = length-take-le (suc i) xs (omega arith) in
    let less : length (take i xs) ≡ i = length-take-le i xs (omega arith) in
    let is : get_or xs c.0 y ≡ y = sym (get_or-take (suc i) xs c.0 y (omega (arith, few, c.1))) ∙ c.2 in
    elim (cases_lt c.0 i) [
      | inl below ↦ inl (c.0, omega arith, get_or-take i xs c.0 y below ∙ is)
      | inr high ↦
          let last : c.0 ≡ i = omega (arith, few, c.1) in
          inr (sym at ∙ default_moves xs i x y lt ∙ ap (λ j. get_or xs j y) (sym last) ∙ is)
    ]

module _ (log : DerivationValue) (targets : List ℕ) where
  pub target_marked : (i : ℕ) (M N : Marks) → i < length targets → IsMarking M N (get_or targets i 0) → AreNeeded log targets M → HasTargets M targets i
      → AreNeeded log targets N × HasTargets N targets (suc i)
  target_marked i M N lt marking needed has = (
    λ n h. elim ((marking n).0 h) [ inl old ↦ needed n old | inr e ↦ target i lt (sym e) ],
    λ j below. elim (cases_lt j i) [
      | inl before ↦ stays M N (get_or targets i 0) _ marking (has j before)
      | inr at ↦ let same : i ≡ j = omega arith in subst (λ n. IsTrue (N (get_or targets n 0))) same (here M N (get_or targets i 0) marking)
    ],
  )

  pub starts : (M : Marks) → AreNeeded log targets M → HasTargets M targets (length targets) → IsMarkedFrom log targets (length log.lines) M
  starts M needed has = record { has = has; needed = needed; closed = λ k m le lt. absurd (omega arith) }

  pub line_visited : (k : ℕ) (M N : Marks) → IsDerivation log → k < length log.lines → IsTrue (M (suc k))
      → ((n : ℕ) → IsTrue (N n) ↔ (IsTrue (M n) ⊎ HasHint log k n)) → IsMarkedFrom log targets (suc k) M → IsMarkedFrom log targets k N
  line_visited k M N is lt at adds w = record {
    has = λ j below. (adds _).1 (inl (w.has j below));
    needed = λ n h. elim ((adds n).0 h) [ inl old ↦ w.needed n old | inr c ↦ named k (w.needed (suc k) at) c ];
    closed = λ j n le below h d. elim (cases_lt k j) [
      | inl more ↦ elim ((adds (suc j)).0 h) [
        | inl old ↦ (adds n).1 (inl (w.closed j n (omega arith) below old d))
        | inr c ↦ absurd (omega (arith, (hint_earlier log is k (suc j) lt c).1))
      ]
      | inr high ↦ let same : j ≡ k = omega arith in (adds n).1 (inr (subst (λ i. HasHint log i n) same d))
    ];
  }

  pub line_passed : (k : ℕ) (M : Marks) → IsFalse (M (suc k)) → IsMarkedFrom log targets (suc k) M → IsMarkedFrom log targets k M
  line_passed k M unmarked w = record {
    has = w.has;
    needed = w.needed;
    closed = λ j n le below h d. elim (cases_lt k j) [
      | inl more ↦ w.closed j n (omega arith) below h d
      | inr high ↦ let same : j ≡ k = omega arith in let both : IsTrue (M (suc k)) = subst (λ i. IsTrue (M (suc i))) same h in absurd (cc)
    ];
  }

  module _ (M : Marks) (is : IsDerivation log) (w : IsMarkedFrom log targets 0 M) where
    needed_marked : {n : ℕ} → IsNeeded log targets n → IsTrue (M n)
    needed_marked (target i lt e) = subst (λ n. IsTrue (M n)) e (w.has i lt)
    needed_marked {n} (named k above c) = elim (cases_lt k (length log.lines)) [
      | inl lt ↦ w.closed k n (omega arith) lt (needed_marked above) c
      | inr le ↦ absurd
          (Contains-nil (Line n) (subst (λ l. Contains l (Line n)) (get_or_past log.hints k [] (let paired = is.1.paired in omega (arith, paired, le))) c))
    ]

    pub ended : IsClosed log M × AreTheNeeded log targets M
    ended = (w.closed, λ n. (w.needed n, needed_marked))

  pub needed_lines : {n : ℕ} → IsDerivation log → AreLines log targets → IsNeeded log targets n → (0 < n) × (n ≤ length log.lines)
  needed_lines is lines (target i lt e) = let w = lines i lt in (omega (arith, w.0), omega (arith, w.1))
  needed_lines {n} is lines (named k above c) =
      let w = needed_lines is lines above in
      let h = hint_earlier log is k n (omega (arith, w.1)) c in
      (h.0, omega (arith, h.1, w.1))

-- ---- the hints of one line

pub hint_marked : (hints : List Hint) (i m : ℕ) (L M N : Marks) → i < length hints → get_or hints i (Line m) ≡ Line m → AddsHints L M hints i → IsMarking M N m
    → AddsHints L N hints (suc i)
hint_marked hints i m L M N lt at adds marking n = (
  λ h. elim ((marking n).0 h) [
    | inl old ↦ elim ((adds n).0 old) [ inl before ↦ inl before | inr c ↦ inr (contains_taken hints i (Line n) c) ]
    | inr e ↦ inr (contains_next hints i (Line n) lt (subst (λ j. get_or hints i (Line j) ≡ Line j) (sym e) at))
  ],
  λ h. elim h [
    | inl before ↦ stays M N m n marking ((adds n).1 (inl before))
    | inr c ↦ elim (contains_more hints i (Line m) (Line n) lt at c) [
      | inl old ↦ stays M N m n marking ((adds n).1 (inr old))
      | inr e ↦ let same : m ≡ n = cc in subst (λ j. IsTrue (N j)) same (here M N m marking)
    ]
  ],
)

pub clause_passed : (hints : List Hint) (i j : ℕ) (L M : Marks) → i < length hints → get_or hints i (Clause j) ≡ Clause j → AddsHints L M hints i
    → AddsHints L M hints (suc i)
clause_passed hints i j L M lt at adds n = (
  λ h. elim ((adds n).0 h) [ inl before ↦ inl before | inr c ↦ inr (contains_taken hints i (Line n) c) ],
  λ h. elim h [
    | inl before ↦ (adds n).1 (inl before)
    | inr c ↦ elim (contains_more hints i (Clause j) (Line n) lt at c) [ inl old ↦ (adds n).1 (inr old) | inr e ↦ absurd (cc) ]
  ],
)

pub no_hints : (M : Marks) (hints : List Hint) → AddsHints M M hints 0
no_hints M hints n = (λ h. inl h, λ h. elim h [ inl old ↦ old | inr c ↦ absurd (Contains-nil (Line n) c) ])
