-- The operators of one formula by direction and range: each is decided, keeps agreement, has the other one as its dual, and repeats where its claim does.
use Rattle.std.proofs.Common.{◌≡◌, ℕ, suc, ◌+◌, ◌*◌, ◌-◌, ◌<◌, ◌≤◌, inl, inr, ◌↔◌, arith}
use Rattle.std.proofs.Math.Nat.{mul-le-mul_left}
use native.Mathlib.Decide.{dec_le}
use Rattle.ltl_syntax.specs.Shape.{Direction, Future, Past, Range, Step, Exactly, Between, Ever, Shape, Negation, Somewhere, Everywhere}
use Rattle.ltl_word.specs.Claims.{Claim, Always', Never, IsLater, Reached, IsSomewhere, IsEverywhere, OfShape}
use Rattle.ltl_word.specs.Depth.{looked_back, steps_back}
use Rattle.ltl_word.proofs.Search.{IsDecided, ¬_decided, ×_decided, mapped, first_or_none}
use Rattle.ltl_word.proofs.Duality.{Negated, HasHorizon}
use Rattle.ltl_word.proofs.Agreement.{IsRange, Same, Same-not}
use Rattle.ltl_word.proofs.Repeats.{Repeats, moved_up, moved_down, Always-repeats, Never-repeats, Since-repeats, Triggered-repeats}

pub later_le : (r : Range) (i j : ℕ) → IsLater r i j → i ≤ j
later_le Ever i j w = w
later_le other i j w = omega arith

-- exactly n is between n and n
exactly_between : (P : Claim) (d : Direction) (n i j : ℕ) → Reached P d (Exactly n) i j ↔ Reached P d (Between n n) i j
exactly_between P Future n i j = (λ w. ((omega arith, omega arith), w.1), λ w. (omega arith, w.1))
exactly_between P Past n i j = (λ w. (omega arith, omega arith), λ w. omega arith)

module _ (P A : Claim) (d : Direction) (n i : ℕ) where
  pub some_exactly : IsSomewhere P d (Exactly n) A i ↔ IsSomewhere P d (Between n n) A i
  some_exactly = (λ w. (w.0, (exactly_between P d n i w.0).0 w.1, w.2), λ w. (w.0, (exactly_between P d n i w.0).1 w.1, w.2))

  pub every_exactly : IsEverywhere P d (Exactly n) A i ↔ IsEverywhere P d (Between n n) A i
  every_exactly = (λ f j w. f j ((exactly_between P d n i j).1 w), λ f j w. f j ((exactly_between P d n i j).0 w))

-- ---- decisions

equal_decided : (i j : ℕ) → Dec (i ≡ j)
equal_decided i j = mapped (λ (w : (i ≤ j) × (j ≤ i)). omega arith) (λ e. (omega arith, omega arith)) (×_decided (dec_le i j) (dec_le j i))

later_decided : (r : Range) (i j : ℕ) → Dec (IsLater r i j)
later_decided Step i j = equal_decided (suc i) j
later_decided (Exactly n) i j = equal_decided (i + n) j
later_decided (Between a b) i j = ×_decided (dec_le (i + a) j) (dec_le j (i + b))
later_decided Ever i j = dec_le i j

reached_decided : (P : Claim) → IsDecided P → (d : Direction) (r : Range) (i : ℕ) → IsDecided (Reached P d r i)
reached_decided P dp Future r i j = ×_decided (later_decided r i j) (dp j)
reached_decided P dp Past r i j = later_decided r j i

-- where A comes at all, it does so below n
abbrev pub HasBound : Claim → Direction → Range → Claim → ℕ → Type 0
HasBound P d r A i = (n : ℕ) × (IsSomewhere P d r A i → (j : ℕ) × (j < n) × Reached P d r i j × A j)

pub ever_bound : (P A : Claim) (i : ℕ) → HasHorizon P Always' A i → HasBound P Future Ever A i
ever_bound P A i (n, low) = (n, λ w. let v = low (w.0, w.1.0, w.1.1, w.2, λ k from to. tt) in (v.0, v.1, (v.2, v.3), v.4))

bound : (P A : Claim) → ((i : ℕ) → HasBound P Future Ever A i) → (d : Direction) (r : Range) (i : ℕ) → HasBound P d r A i
bound P A near Future Step i = (suc (suc i), λ w. (w.0, omega arith, w.1, w.2))
bound P A near Future (Exactly n) i = (suc (i + n), λ w. (w.0, omega arith, w.1, w.2))
bound P A near Future (Between a b) i = (suc (i + b), λ w. (w.0, omega arith, w.1, w.2))
bound P A near Future Ever i = near i
bound P A near Past r i = (suc i, λ w. let le = later_le r w.0 i w.1 in (w.0, omega arith, w.1, w.2))

module _ (P A : Claim) (dp : IsDecided P) (da : IsDecided A) where
  pub Somewhere_decided : ((i : ℕ) → HasBound P Future Ever A i) → (d : Direction) (r : Range) → IsDecided (IsSomewhere P d r A)
  Somewhere_decided near d r i =
      let b = bound P A near d r i in
      elim (first_or_none (λ j. Reached P d r i j × A j) (λ j. ×_decided (reached_decided P dp d r i j) (da j)) b.0) [
        | inl w ↦ yes (w.0, w.2.0, w.2.1)
        | inr none ↦ no (λ w. let v = b.1 w in none v.0 v.1 (v.2, v.3))
      ]

module _ (P A : Claim) (dp : IsDecided P) (da : IsDecided A) where
  -- not nowhere is somewhere
  pub Everywhere-from_none : (d : Direction) (r : Range) (i : ℕ) → (IsSomewhere P d r (Negated A) i → ⊥) → IsEverywhere P d r A i
  Everywhere-from_none d r i none j w = elim (da j) [ yes x ↦ x | no n ↦ absurd (none (j, w, n)) ]

  pub no_decided : IsDecided (Negated A)
  no_decided j = ¬_decided (da j)

  pub Everywhere_decided : ((i : ℕ) → HasBound P Future Ever (Negated A) i) → (d : Direction) (r : Range) → IsDecided (IsEverywhere P d r A)
  Everywhere_decided near d r i = elim (Somewhere_decided P (Negated A) dp no_decided near d r i) [
    | yes w ↦ no (λ f. w.2 (f w.0 w.1))
    | no none ↦ yes (Everywhere-from_none d r i none)
  ]

  pub OfShape_decided : ((i : ℕ) → HasBound P Future Ever A i) → ((i : ℕ) → HasBound P Future Ever (Negated A) i) → (s : Shape) → IsDecided (OfShape P s A)
  OfShape_decided near far Negation i = ¬_decided (da i)
  OfShape_decided near far (Somewhere d r) i = Somewhere_decided P A dp da near d r i
  OfShape_decided near far (Everywhere d r) i = Everywhere_decided far d r i

-- ---- agreement

-- what is reached from a number of the range is in it
pub inside : {P Q : Claim} → IsRange P Q → (d : Direction) (r : Range) (i j : ℕ) → Q i → Reached P d r i j → Q j
inside range Future r i j q w = range.whole j w.1
inside range Past r i j q w = range.closed j i (later_le r j i w) q

module _ {P Q : Claim} (range : IsRange P Q) (d : Direction) (r : Range) (A C : Claim) where
  pub Same-somewhere : Same Q A C → Same Q (IsSomewhere P d r A) (IsSomewhere P d r C)
  Same-somewhere f = record {
    to = λ i q w. (w.0, w.1, f.to w.0 (inside range d r i w.0 q w.1) w.2);
    back = λ i q w. (w.0, w.1, f.back w.0 (inside range d r i w.0 q w.1) w.2);
  }

  pub Same-everywhere : Same Q A C → Same Q (IsEverywhere P d r A) (IsEverywhere P d r C)
  Same-everywhere f = record {
    to = λ i q h j w. f.to j (inside range d r i j q w) (h j w);
    back = λ i q h j w. f.back j (inside range d r i j q w) (h j w);
  }

  -- C stands for the negation of A
  pub Same-no_somewhere : Same Q C (Negated A) → Same Q (IsEverywhere P d r C) (Negated (IsSomewhere P d r A))
  Same-no_somewhere f = record {
    to = λ i q h w. f.to w.0 (inside range d r i w.0 q w.1) (h w.0 w.1) w.2;
    back = λ i q h j w. f.back j (inside range d r i j q w) (λ x. h (j, w, x));
  }

  pub Same-no_everywhere : IsDecided P → IsDecided A → ((i : ℕ) → HasBound P Future Ever (Negated A) i) → Same Q C (Negated A)
      → Same Q (IsSomewhere P d r C) (Negated (IsEverywhere P d r A))
  Same-no_everywhere dp da near f = record {
    to = λ i q w h. f.to w.0 (inside range d r i w.0 q w.1) w.2 (h w.0 w.1);
    back = λ i q h. elim (Somewhere_decided P (Negated A) dp (λ j. ¬_decided (da j)) near d r i) [
      | yes w ↦ (w.0, w.1, f.back w.0 (inside range d r i w.0 q w.1) w.2)
      | no none ↦ absurd (h (Everywhere-from_none P A dp da d r i none))
    ];
  }

pub Same-shape : {P Q : Claim} → IsRange P Q → (s : Shape) (A C : Claim) → Same Q A C → Same Q (OfShape P s A) (OfShape P s C)
Same-shape range Negation A C f = Same-not A C f
Same-shape range (Somewhere d r) A C f = Same-somewhere range d r A C f
Same-shape range (Everywhere d r) A C f = Same-everywhere range d r A C f

-- ---- repetition

later_up : (p : ℕ) (r : Range) (i j : ℕ) → IsLater r i j → IsLater r (i + p) (j + p)
later_up p (Between a b) i j w = (omega arith, omega arith)
later_up p other i j w = omega arith

later_down : (p : ℕ) (r : Range) (i j : ℕ) → IsLater r (i + p) j → IsLater r i (j - p)
later_down p (Between a b) i j w = (omega arith, omega arith)
later_down p other i j w = omega arith

earlier_down : (p : ℕ) (r : Range) (i j : ℕ) → p ≤ j → IsLater r j (i + p) → IsLater r (j - p) i
earlier_down p (Between a b) i j le w = (omega arith, omega arith)
earlier_down p other i j le w = omega arith

-- from m on, what is reached moves with the period, and all of it is from n on
record Moves (R : ℕ → Claim) (p n m : ℕ) : Type 0 where
  up : (i j : ℕ) → m ≤ i → R i j → (n ≤ j) × R (i + p) (j + p)
  down : (i j : ℕ) → m ≤ i → R (i + p) j → (n + p ≤ j) × R i (j - p)

module _ (P A : Claim) (p n : ℕ) (some : 0 < p) (rp : Repeats P p n) (ra : Repeats A p n) where
  future_moves : (r : Range) → Moves (Reached P Future r) p n (n + 0 * p)
  future_moves r = record {
    up = λ i j h w. let le = later_le r i j w.0 in (omega arith, (later_up p r i j w.0, rp.later j (omega arith) w.1));
    down = λ i j h w. let le = later_le r (i + p) j w.0 in (omega arith, (later_down p r i j w.0, moved_down P p n rp j (omega arith) w.1));
  }

  -- a range of the past that ends
  past_moves : (r : Range) → ((i j : ℕ) → IsLater r j i → i ≤ j + looked_back Past r) → Moves (Reached P Past r) p n (n + looked_back Past r * p)
  past_moves r ends =
      let k = looked_back Past r in
      let far : k * 1 ≤ k * p = mul-le-mul_left k (omega arith) in
      record {
        up = λ i j h w. let le = ends i j w in (omega arith, later_up p r j i w);
        down = λ i j h w. let le = ends (i + p) j w in (omega arith, earlier_down p r i j (omega arith) w);
      }

  moved_somewhere : (d : Direction) (r : Range) (m : ℕ) → Moves (Reached P d r) p n m → Repeats (IsSomewhere P d r A) p m
  moved_somewhere d r m v = record {
    later = λ i h w. let u = v.up i w.0 h w.1 in (w.0 + p, u.1, ra.later w.0 u.0 w.2);
    earlier = λ i h w. let u = v.down i w.0 h w.1 in (w.0 - p, u.1, moved_down A p n ra w.0 u.0 w.2);
  }

  moved_everywhere : (d : Direction) (r : Range) (m : ℕ) → Moves (Reached P d r) p n m → Repeats (IsEverywhere P d r A) p m
  moved_everywhere d r m v = record {
    later = λ i h f j w. let u = v.down i j h w in moved_up A p n ra j u.0 (f (j - p) u.1);
    earlier = λ i h f j w. let u = v.up i j h w in ra.earlier j u.0 (f (j + p) u.1);
  }

  pub Somewhere-repeats : (d : Direction) (r : Range) → Repeats (IsSomewhere P d r A) p (n + looked_back d r * p)
  Somewhere-repeats Future r = moved_somewhere Future r (n + 0 * p) (future_moves r)
  Somewhere-repeats Past Step = moved_somewhere Past Step (n + 1 * p) (past_moves Step (λ i j w. omega arith))
  Somewhere-repeats Past (Exactly k) = moved_somewhere Past (Exactly k) (n + k * p) (past_moves (Exactly k) (λ i j w. omega arith))
  Somewhere-repeats Past (Between a b) = moved_somewhere Past (Between a b) (n + b * p) (past_moves (Between a b) (λ i j w. omega arith))
  Somewhere-repeats Past Ever = let r = Since-repeats Always' A p n some (Always-repeats p n) ra in record {
    later = λ i h w. let u = r.later i (omega arith) (w.0, w.1, w.2, λ k low high. tt) in (u.0, u.1, u.2);
    earlier = λ i h w. let u = r.earlier i (omega arith) (w.0, w.1, w.2, λ k low high. tt) in (u.0, u.1, u.2);
  }

  pub Everywhere-repeats : (d : Direction) (r : Range) → Repeats (IsEverywhere P d r A) p (n + looked_back d r * p)
  Everywhere-repeats Future r = moved_everywhere Future r (n + 0 * p) (future_moves r)
  Everywhere-repeats Past Step = moved_everywhere Past Step (n + 1 * p) (past_moves Step (λ i j w. omega arith))
  Everywhere-repeats Past (Exactly k) = moved_everywhere Past (Exactly k) (n + k * p) (past_moves (Exactly k) (λ i j w. omega arith))
  Everywhere-repeats Past (Between a b) = moved_everywhere Past (Between a b) (n + b * p) (past_moves (Between a b) (λ i j w. omega arith))
  Everywhere-repeats Past Ever = let r = Triggered-repeats Never A p n some (Never-repeats p n) ra in record {
    later = λ i h f j w. elim (r.later i (omega arith) (λ k le. inl (f k le)) j w) [ inl x ↦ x | inr v ↦ absurd v.3 ];
    earlier = λ i h f j w. elim (r.earlier i (omega arith) (λ k le. inl (f k le)) j w) [ inl x ↦ x | inr v ↦ absurd v.3 ];
  }

  pub OfShape-repeats : (s : Shape) → Repeats (OfShape P s A) p (n + steps_back s * p)
  OfShape-repeats Negation = record { later = λ i h f a. f (ra.earlier i (omega arith) a); earlier = λ i h f a. f (ra.later i (omega arith) a) }
  OfShape-repeats (Somewhere d r) = Somewhere-repeats d r
  OfShape-repeats (Everywhere d r) = Everywhere-repeats d r
