-- What the columns of a trace come back to, and the values of the future operators in them.
use Rattle.std.proofs.Common.{◌≡◌, ℕ, ◌+◌, ◌-◌, ◌<◌, ◌≤◌, Bool, true, false, List, length, IsTrue, ◌↔◌, sym, ◌∙◌, subst, arith}
use Rattle.std.specs.Prelude.{⊤}
use Rattle.ltl_syntax.specs.Formula.{Formula}
use Rattle.ltl_word.specs.declared.trace.Trace.{Trace}
use Rattle.ltl_word.specs.declared.trace.Trace.TheVariants.{Infinite, Finite}
use Rattle.ltl_word.specs.Trace.{IsTrace, IsPosition}
use Rattle.ltl_word.specs.Claims.{Claim, Always', Never, IsUntil, IsReleased}
use Rattle.ltl_word.specs.Holds.{Holds}
use Rattle.ltl_word.specs.Depth.{past_depth}
use Rattle.ltl_word.proofs.Repeats.{Repeats, Until-repeats, Released-repeats}
use Rattle.ltl_word.proofs.Periodicity.{Holds-repeats}
use Rattle.lasso_eval.specs.declared.span.Span.{Span}
use Rattle.lasso_eval.specs.Cells.{columns, loop_start}
use Rattle.lasso_eval.specs.Spans.{swept_back}
use Rattle.lasso_eval.proofs.Sweeping.{swept_nowhere}
use Rattle.lasso_eval.proofs.Spanning.{Say, IsUntilRule, IsReleaseRule, until_swept, release_swept, until_within, release_within, until_around, release_around}

-- n columns come back to the start of the last loop, from which on the claim repeats; or they are those of a finite trace
abbrev pub Turns : Trace → ℕ → ℕ → Claim → Type 0
Turns (Infinite stem loop_part) n start A = (0 < length loop_part) × (start + length loop_part ≡ n) × Repeats A (length loop_part) start
Turns (Finite states) n start A = (start ≡ n) × (length states ≡ n)

pub Holds-turns : (t : Trace) → IsTrace t → (depth n start : ℕ) (f : Formula) → n ≡ columns t depth → start ≡ loop_start t depth
    → past_depth f ≤ depth → Turns t n start (Holds t f)
Holds-turns (Infinite stem loop_part) some depth n start f en es deep = (
  some,
  omega (
    arith,
    en,
    es,
  ),
  subst (λ m. Repeats (Holds (Infinite stem loop_part) f) (length loop_part) m) (sym es) (Holds-repeats stem loop_part some f depth deep),
)
Holds-turns (Finite states) some depth n start f en es deep = (es ∙ sym en, sym en)

pub Always-turns : (t : Trace) (n start : ℕ) (A : Claim) → Turns t n start A → Turns t n start Always'
Always-turns (Infinite stem loop_part) n start A w = (w.0, w.1, record { later = λ i h a. a; earlier = λ i h a. a })
Always-turns (Finite states) n start A w = w

pub Never-turns : (t : Trace) (n start : ℕ) (A : Claim) → Turns t n start A → Turns t n start Never
Never-turns (Infinite stem loop_part) n start A w = (w.0, w.1, record { later = λ i h a. a; earlier = λ i h a. a })
Never-turns (Finite states) n start A w = w

module _ (span : Span) (a b : List Bool) (x y : ℕ → Bool) (X Y : Claim) (n : ℕ) (tx : Say n x X) (ty : Say n y Y) where
  module _ (start p : ℕ) (some : 0 < p) (e : start + p ≡ n) (rx : Repeats X p start) (ry : Repeats Y p start) where
    until_looped : IsUntilRule span a b x y → (i : ℕ)
        → i < n → IsTrue (swept_back span a b (n - i) i (swept_back span a b (n - start) start false)) ↔ IsUntil (λ j. ⊤) X Y i
    until_looped rule i low =
        let value = swept_back span a b (n - start) start false in
        let inner = until_within span a b x y X Y n tx ty rule (n - start) start (omega arith) in
        let around = subst (λ m. IsUntil (λ j. j < m) X Y start ↔ IsUntil (λ j. ⊤) X Y start) e (until_around X Y start p some rx ry) in
        let turn = Until-repeats (λ j. ⊤) X Y p start (record { later = λ j h at. at; earlier = λ j h at. at }) rx ry in
        let told : IsTrue value ↔ (⊤ × IsUntil (λ j. ⊤) X Y n) = (
          λ t. (tt, subst (IsUntil (λ j. ⊤) X Y) e (turn.later start (omega arith) (around.0 (inner.0 t).1))),
          λ w. inner.1 (omega arith, around.1 (turn.earlier start (omega arith) (subst (IsUntil (λ j. ⊤) X Y) (sym e) w.1))),
        ) in
        let swept = until_swept span a b x y X Y n tx ty (λ j. ⊤) (λ j k le at. tt) (λ j h. tt) rule value told (n - i) i (omega arith) in
        (λ t. (swept.0 t).1, λ u. swept.1 (tt, u))

    release_looped : IsReleaseRule span a b x y → (i : ℕ)
        → i < n → IsTrue (swept_back span a b (n - i) i (swept_back span a b (n - start) start true)) ↔ IsReleased (λ j. ⊤) X Y i
    release_looped rule i low =
        let value = swept_back span a b (n - start) start true in
        let inner = release_within span a b x y X Y n tx ty rule (n - start) start (omega arith) in
        let around = subst (λ m. IsReleased (λ j. j < m) X Y start ↔ IsReleased (λ j. ⊤) X Y start) e (release_around X Y start p some rx ry) in
        let turn = Released-repeats (λ j. ⊤) X Y p start (record { later = λ j h at. at; earlier = λ j h at. at }) rx ry in
        let told : IsTrue value ↔ (⊤ → IsReleased (λ j. ⊤) X Y n) = (
          λ t at. subst (IsReleased (λ j. ⊤) X Y) e (turn.later start (omega arith) (around.0 (inner.0 t (omega arith)))),
          λ f. inner.1 (λ at. around.1 (turn.earlier start (omega arith) (subst (IsReleased (λ j. ⊤) X Y) (sym e) (f tt)))),
        ) in
        let swept = release_swept span a b x y X Y n tx ty (λ j. ⊤) (λ j k le at. tt) (λ j h. tt) rule value told (n - i) i (omega arith) in
        (λ t. swept.0 t tt, λ r. swept.1 (λ at. r))

  until_ended : IsUntilRule span a b x y → (i : ℕ)
      → i < n → IsTrue (swept_back span a b (n - i) i (swept_back span a b (n - n) n false)) ↔ IsUntil (λ j. j < n) X Y i
  until_ended rule i low =
      let inner = until_within span a b x y X Y n tx ty rule (n - i) i (omega arith) in
      subst (λ v. IsTrue (swept_back span a b (n - i) i v) ↔ IsUntil (λ j. j < n) X Y i) (sym (swept_nowhere span a b n false))
      (λ t. (inner.0 t).1, λ u. inner.1 (low, u))

  release_ended : IsReleaseRule span a b x y → (i : ℕ)
      → i < n → IsTrue (swept_back span a b (n - i) i (swept_back span a b (n - n) n true)) ↔ IsReleased (λ j. j < n) X Y i
  release_ended rule i low =
      let inner = release_within span a b x y X Y n tx ty rule (n - i) i (omega arith) in
      subst (λ v. IsTrue (swept_back span a b (n - i) i v) ↔ IsReleased (λ j. j < n) X Y i) (sym (swept_nowhere span a b n true))
      (λ t. inner.0 t low, λ r. inner.1 (λ at. r))

  pub until_told : (t : Trace) (start : ℕ) → Turns t n start X → Turns t n start Y → IsUntilRule span a b x y
      → (i : ℕ) → i < n → IsTrue (swept_back span a b (n - i) i (swept_back span a b (n - start) start false)) ↔ IsUntil (IsPosition t) X Y i
  until_told (Infinite stem loop_part) start wx wy rule i low = until_looped start (length loop_part) wx.0 wx.1 wx.2 wy.2 rule i low
  until_told (Finite states) start wx wy rule i low =
      subst (λ m. IsTrue (swept_back span a b (n - i) i (swept_back span a b (n - m) m false)) ↔ IsUntil (λ j. j < length states) X Y i) (sym wx.0)
      (subst (λ m. IsTrue (swept_back span a b (n - i) i (swept_back span a b (n - n) n false)) ↔ IsUntil (λ j. j < m) X Y i) (sym wx.1)
      (until_ended rule i low))

  pub release_told : (t : Trace) (start : ℕ) → Turns t n start X → Turns t n start Y → IsReleaseRule span a b x y
      → (i : ℕ) → i < n → IsTrue (swept_back span a b (n - i) i (swept_back span a b (n - start) start true)) ↔ IsReleased (IsPosition t) X Y i
  release_told (Infinite stem loop_part) start wx wy rule i low = release_looped start (length loop_part) wx.0 wx.1 wx.2 wy.2 rule i low
  release_told (Finite states) start wx wy rule i low =
      subst (λ m. IsTrue (swept_back span a b (n - i) i (swept_back span a b (n - m) m true)) ↔ IsReleased (λ j. j < length states) X Y i) (sym wx.0)
      (subst (λ m. IsTrue (swept_back span a b (n - i) i (swept_back span a b (n - n) n true)) ↔ IsReleased (λ j. j < m) X Y i) (sym wx.1)
      (release_ended rule i low))
