-- The row of each operator says where its formula holds.
use Rattle.std.proofs.Common.{◌≡◌, ℕ, zero, suc, ◌+◌, ◌-◌, ◌<◌, ◌≤◌, Bool, true, false, ◌&&◌, ◌||◌, not, List, length, IsTrue, ◌⊎◌, inl, inr, ◌↔◌, refl, sym}
use Rattle.std.proofs.Common.{◌∙◌, subst, arith}
use Rattle.std.proofs.lemmas.Bool.{cases_lt, cond-true, cond-false, lt-ltb}
use Rattle.std.proofs.Common.{le-ltb}
use Rattle.ltl_syntax.specs.declared.node.UnaryOp.TheVariants.{Always, Eventually, Historically, Next, Not, Once, WeakNext, WeakYesterday, Yesterday}
use Rattle.ltl_syntax.specs.declared.node.BinaryOp.TheVariants.{And, Iff, Implies, Or, Release, Since, StrongRelease, Trigger, Until, WeakUntil}
use Rattle.ltl_syntax.specs.declared.node.BinaryOp.{BinaryOp}
use Rattle.ltl_syntax.specs.Shape.{Past, Step}
use Rattle.ltl_syntax.specs.Formula.{Formula, Unary, Binary}
use Rattle.ltl_word.specs.declared.trace.Trace.{Trace}
use Rattle.ltl_word.specs.declared.trace.Trace.TheVariants.{Infinite, Finite}
use Rattle.ltl_word.specs.Trace.{IsTrace, IsPosition}
use Rattle.ltl_word.specs.Claims.{Claim, Always', Never, IsSomewhere, IsEverywhere}
use Rattle.ltl_word.specs.Holds.{Holds}
use Rattle.ltl_word.specs.Depth.{past_depth}
use Rattle.ltl_word.proofs.Steps.{next_is, weak_next_is, eventually_is, always_is, once_is, historically_is, by_form}
use Rattle.lasso_eval.specs.declared.local.Connective.{Connective}
use Rattle.lasso_eval.specs.declared.local.Connective.TheVariants as connectives
use Rattle.lasso_eval.specs.declared.span.Span.{Span}
use Rattle.lasso_eval.specs.declared.span.Span.TheVariants as spans
use Rattle.lasso_eval.specs.Cells.{columns, loop_start}
use Rattle.lasso_eval.specs.Rows.{cell, IsRow, Tells}
use Rattle.lasso_eval.specs.Truth.{connected}
use Rattle.lasso_eval.specs.Neighbours.{earlier, later}
use Rattle.lasso_eval.specs.Spans.{beyond, swept_back, swept_before}
use Rattle.lasso_eval.specs.Following.{FollowsOne, FollowsTwo}
use Rattle.lasso_eval.proofs.Truths.{and_tells, or_tells, not_tells, implies_tells}
use Rattle.lasso_eval.proofs.Spanning.{Say, since_swept, trigger_swept}
use Rattle.lasso_eval.proofs.Turning.{Turns, Holds-turns, Always-turns, Never-turns, until_told, release_told}

-- a row whose cells are values that say where a claim holds
pub row_of_values : (n m : ℕ) (A : Claim) (row : List Bool) (x : ℕ → Bool) → m ≡ n → length row ≡ m → ((i : ℕ) → i < m → cell row i ≡ x i)
    → ((i : ℕ) → i < n → IsTrue (x i) ↔ A i) → IsRow n A row
row_of_values n m A row x e count each says = record {
  count = count ∙ e;
  right = λ i h. subst (λ v. IsTrue v ↔ A i) (sym (each i (omega arith))) (says i h);
}

pub not_follows : (a row : List Bool) (start : ℕ) → length row ≡ length a → ((i : ℕ) → i < length a → cell row i ≡ not (cell a i)) → FollowsOne Not a start row
not_follows a row start count each t depth f good at deep told =
    row_of_values (columns t depth) (length a) (Holds t (Unary Not f)) row (λ i. not (cell a i)) told.count count each
    (λ i h. not_tells (cell a i) (told.right i h))

-- which connective an operator is
pub IsConnective : BinaryOp → Connective → Type 0
IsConnective op connective = (t : Trace) (f g : Formula) (i : ℕ) (x y : Bool) → IsTrue x ↔ Holds t f i → IsTrue y
    ↔ Holds t g i → IsTrue (connected connective x y) ↔ Holds t (Binary op f g) i

pub and_is : IsConnective And connectives.And
unfolding IsConnective
and_is t f g i x y p q = and_tells x y p q

pub or_is : IsConnective Or connectives.Or
unfolding IsConnective
or_is t f g i x y p q = or_tells x y p q

pub implies_is : IsConnective Implies connectives.Implies
unfolding IsConnective
implies_is t f g i x y p q = implies_tells x y p q

pub iff_is : IsConnective Iff connectives.Iff
unfolding IsConnective
iff_is t f g i x y p q = and_tells (not x || y) (not y || x) (implies_tells x y p q) (implies_tells y x q p)

pub connective_follows : (op : BinaryOp) (connective : Connective) → IsConnective op connective → (a b row : List Bool) (start : ℕ)
    → length row ≡ length a → ((i : ℕ) → i < length a → cell row i ≡ connected connective (cell a i) (cell b i)) → FollowsTwo op a b start row
unfolding IsConnective
connective_follows op connective is a b row start count each t depth f g good at deep ta tb =
    row_of_values (columns t depth) (length a) (Holds t (Binary op f g)) row (λ i. connected connective (cell a i) (cell b i)) ta.count count each
    (λ i h. is t f g i (cell a i) (cell b i) (ta.right i h) (tb.right i h))

module _ (A : Claim) (a : List Bool) (n : ℕ) (told : IsRow n A a) where
  inner : (start : ℕ) (v : Bool) (i : ℕ) → suc i < n → later a start v i ≡ cell a (i + 1)
  inner start v i h = cond-true _ _ _ (lt-ltb (i + 1) (length a) (omega (arith, told.count, h)))

  told_next : (i : ℕ) → suc i < n → IsTrue (cell a (i + 1)) ↔ A (suc i)
  told_next i h = let e : suc i ≡ i + 1 = omega arith in subst (λ m. IsTrue (cell a (i + 1)) ↔ A m) (sym e) (told.right (i + 1) (omega arith))

  around : (start : ℕ) (v : Bool) (i : ℕ) → suc i ≡ n → start < n → later a start v i ≡ cell a start
  around start v i h low =
      cond-false _ _ _ (le-ltb (i + 1) (length a) (omega (arith, told.count, h))) ∙ cond-true _ _ _ (lt-ltb start (length a) (omega (arith, told.count, low)))

  ended : (start : ℕ) (v : Bool) (i : ℕ) → suc i ≡ n → start ≡ n → later a start v i ≡ v
  ended start v i h at =
      cond-false _ _ _ (le-ltb (i + 1) (length a) (omega (arith, told.count, h))) ∙ cond-false _ _ _ (le-ltb start (length a) (omega (arith, told.count, at)))

  -- on a loop the value of the next column is that at the next position
  next_looped : (start p : ℕ) → 0 < p → start + p ≡ n → (A start → A (start + p)) → (A (start + p) → A start) → (v : Bool) (i : ℕ)
      → i < n → IsTrue (later a start v i) ↔ A (suc i)
  next_looped start p some e up down v i h = elim (cases_lt (suc i) n) [
    | inl within ↦ subst (λ b. IsTrue b ↔ A (suc i)) (sym (inner start v i within)) (told_next i within)
    | inr past ↦
        let last : suc i ≡ n = omega arith in
        let back = told.right start (omega arith) in
        let end : start + p ≡ suc i = e ∙ sym last in
        subst (λ b. IsTrue b ↔ A (suc i)) (sym (around start v i last (omega arith)))
        (λ t. subst A end (up (back.0 t)), λ w. back.1 (down (subst A (sym end) w)))
  ]

  next_told : (t : Trace) (start : ℕ) → Turns t n start A → (i : ℕ) → i < n → IsTrue (later a start false i) ↔ (IsPosition t (suc i) × A (suc i))
  next_told (Infinite stem loop_part) start w i h =
      let l = next_looped start (length loop_part) w.0 w.1 (w.2.later start (omega arith)) (w.2.earlier start (omega arith)) false i h in
      (λ t. (tt, l.0 t), λ u. l.1 u.1)
  next_told (Finite states) start w i h = elim (cases_lt (suc i) n) [
    | inl within ↦ let l = told_next i within in subst (λ b. IsTrue b ↔ (IsPosition (Finite states) (suc i) × A (suc i))) (sym (inner start false i within))
        (λ t. (omega (arith, w.1, within), l.0 t), λ u. l.1 u.1)
    | inr past ↦ subst (λ b. IsTrue b ↔ (IsPosition (Finite states) (suc i) × A (suc i))) (sym (ended start false i (omega arith) w.0))
        (λ t. absurd (cc), λ u. absurd (omega (arith, u.0, past, w.1)))
  ]

  weak_next_told : (t : Trace) (start : ℕ) → Turns t n start A → (i : ℕ) → i < n → IsTrue (later a start true i) ↔ (IsPosition t (suc i) → A (suc i))
  weak_next_told (Infinite stem loop_part) start w i h =
      let l = next_looped start (length loop_part) w.0 w.1 (w.2.later start (omega arith)) (w.2.earlier start (omega arith)) true i h in
      (λ t at. l.0 t, λ f. l.1 (f tt))
  weak_next_told (Finite states) start w i h = elim (cases_lt (suc i) n) [
    | inl within ↦ let l = told_next i within in subst (λ b. IsTrue b ↔ (IsPosition (Finite states) (suc i) → A (suc i))) (sym (inner start true i within))
        (λ t at. l.0 t, λ f. l.1 (f (omega (arith, w.1, within))))
    | inr past ↦ subst (λ b. IsTrue b ↔ (IsPosition (Finite states) (suc i) → A (suc i))) (sym (ended start true i (omega arith) w.0))
        (λ t at. absurd (omega (arith, at, past, w.1)), λ f. refl)
  ]

  yesterday_told : (i : ℕ) → i < n → IsTrue (earlier a false i) ↔ IsSomewhere Always' Past Step A i
  yesterday_told zero h = (λ e. absurd (cc), λ w. absurd (omega (arith, w.1)))
  yesterday_told (suc i) h =
      let l = told.right i (omega arith) in
      (λ t. (i, refl, l.0 t), λ w. let e : w.0 ≡ i = omega (arith, w.1) in l.1 (subst A e w.2))

  weak_yesterday_told : (i : ℕ) → i < n → IsTrue (earlier a true i) ↔ IsEverywhere Always' Past Step A i
  weak_yesterday_told zero h = (λ e j w. absurd (omega (arith, w)), λ f. refl)
  weak_yesterday_told (suc i) h =
      let l = told.right i (omega arith) in
      (λ t j w. let e : i ≡ j = omega (arith, w) in subst A e (l.0 t), λ f. l.1 (f i refl))

pub next_follows : (a row : List Bool) (start : ℕ) → length row ≡ length a → ((i : ℕ) → i < length a → cell row i ≡ later a start false i)
    → FollowsOne Next a start row
next_follows a row start count each t depth f good at deep told =
    row_of_values (columns t depth) (length a) (Holds t (Unary Next f)) row (later a start false) told.count count each
    (λ i h. by_form (next_told (Holds t f) a (columns t depth) told t start (Holds-turns t good depth (columns t depth) start f refl at (omega arith)) i h)
    (next_is (IsPosition t) (Holds t f) i))

pub weak_next_follows : (a row : List Bool) (start : ℕ) → length row ≡ length a → ((i : ℕ) → i < length a → cell row i ≡ later a start true i)
    → FollowsOne WeakNext a start row
weak_next_follows a row start count each t depth f good at deep told =
    row_of_values (columns t depth) (length a) (Holds t (Unary WeakNext f)) row (later a start true) told.count count each
    (λ i h. by_form (weak_next_told (Holds t f) a (columns t depth) told t start (Holds-turns t good depth (columns t depth) start f refl at (omega arith)) i h)
    (weak_next_is (IsPosition t) (Holds t f) i))

pub yesterday_follows : (a row : List Bool) (start : ℕ) → length row ≡ length a → ((i : ℕ) → i < length a → cell row i ≡ earlier a false i)
    → FollowsOne Yesterday a start row
yesterday_follows a row start count each t depth f good at deep told =
    row_of_values (columns t depth) (length a) (Holds t (Unary Yesterday f)) row (earlier a false) told.count count each
    (yesterday_told (Holds t f) a (columns t depth) told)

pub weak_yesterday_follows : (a row : List Bool) (start : ℕ) → length row ≡ length a → ((i : ℕ) → i < length a → cell row i ≡ earlier a true i)
    → FollowsOne WeakYesterday a start row
weak_yesterday_follows a row start count each t depth f good at deep told =
    row_of_values (columns t depth) (length a) (Holds t (Unary WeakYesterday f)) row (earlier a true) told.count count each
    (weak_yesterday_told (Holds t f) a (columns t depth) told)

-- the row is that of a sweep back, and of a sweep on
abbrev pub IsSweptBack : Span → List Bool → List Bool → ℕ → List Bool → Type 0
IsSweptBack span a b start row =
    (i : ℕ) → i < length a → cell row i ≡ swept_back span a b (length a - i) i (swept_back span a b (length a - start) start (beyond span))

abbrev pub IsSweptOn : Span → List Bool → List Bool → List Bool → Type 0
IsSweptOn span a b row = (i : ℕ) → i < length a → cell row i ≡ swept_before span a b (suc i)

truth : (n : ℕ) → Say n (λ i. true) Always'
truth n i h = (λ e. tt, λ w. refl)

falsity : (n : ℕ) → Say n (λ i. false) Never
falsity n i h = (λ e. absurd (cc), λ w. absurd w)

module _ (a row : List Bool) (start : ℕ) (count : length row ≡ length a) where
  pub eventually_follows : IsSweptBack spans.Eventually a a start row → FollowsOne Eventually a start row
  eventually_follows each t depth f good at deep told =
      let n = length a in
      let turns = Holds-turns t good depth n start f told.count at (omega arith) in
      row_of_values (columns t depth) n (Holds t (Unary Eventually f)) row _ told.count count each
      (λ i h. by_form (until_told spans.Eventually a a (λ j. true) (cell a) Always' (Holds t f) n (truth n)
      (λ j low. told.right j (omega (arith, told.count, low)))
      t start (Always-turns t n start (Holds t f) turns) turns (λ j v. refl) i (omega (arith, told.count, h)))
      (eventually_is (IsPosition t) (Holds t f) i))

  pub always_follows : IsSweptBack spans.Always a a start row → FollowsOne Always a start row
  always_follows each t depth f good at deep told =
      let n = length a in
      let turns = Holds-turns t good depth n start f told.count at (omega arith) in
      row_of_values (columns t depth) n (Holds t (Unary Always f)) row _ told.count count each
      (λ i h. by_form (release_told spans.Always a a (λ j. false) (cell a) Never (Holds t f) n (falsity n)
      (λ j low. told.right j (omega (arith, told.count, low)))
      t start (Never-turns t n start (Holds t f) turns) turns (λ j v. refl) i (omega (arith, told.count, h)))
      (always_is (IsPosition t) (Holds t f) i))

  pub once_follows : IsSweptOn spans.Eventually a a row → FollowsOne Once a start row
  once_follows each t depth f good at deep told =
      row_of_values (columns t depth) (length a) (Holds t (Unary Once f)) row _ told.count count each
      (λ i h. by_form (since_swept spans.Eventually a a (λ j. true) (cell a) Always' (Holds t f) (columns t depth) (truth _)
      (λ j low. told.right j low) (λ j v. refl) refl i h) (once_is (IsPosition t) (Holds t f) i))

  pub historically_follows : IsSweptOn spans.Always a a row → FollowsOne Historically a start row
  historically_follows each t depth f good at deep told =
      row_of_values (columns t depth) (length a) (Holds t (Unary Historically f)) row _ told.count count each
      (λ i h. by_form (trigger_swept spans.Always a a (λ j. false) (cell a) Never (Holds t f) (columns t depth) (falsity _)
      (λ j low. told.right j low) (λ j v. refl) refl i h) (historically_is (IsPosition t) (Holds t f) i))

module _ (a b row : List Bool) (start : ℕ) (count : length row ≡ length a) where
  pub since_follows : IsSweptOn spans.Until a b row → FollowsTwo Since a b start row
  since_follows each t depth f g good at deep ta tb =
      row_of_values (columns t depth) (length a) (Holds t (Binary Since f g)) row _ ta.count count each
      (since_swept spans.Until a b (cell a) (cell b) (Holds t f) (Holds t g) (columns t depth) (λ j low. ta.right j low) (λ j low. tb.right j low)
      (λ j v. refl) refl)

  pub trigger_follows : IsSweptOn spans.Release a b row → FollowsTwo Trigger a b start row
  trigger_follows each t depth f g good at deep ta tb =
      row_of_values (columns t depth) (length a) (Holds t (Binary Trigger f g)) row _ ta.count count each
      (trigger_swept spans.Release a b (cell a) (cell b) (Holds t f) (Holds t g) (columns t depth) (λ j low. ta.right j low) (λ j low. tb.right j low)
      (λ j v. refl) refl)

  module _ (t : Trace) (depth : ℕ) (f g : Formula) (good : IsTrace t) (at : start ≡ loop_start t depth) (ta : Tells t depth f a) (tb : Tells t depth g b) where
    say_left : Say (length a) (cell a) (Holds t f)
    say_left j low = ta.right j (omega (arith, ta.count, low))

    say_right : Say (length a) (cell b) (Holds t g)
    say_right j low = tb.right j (omega (arith, ta.count, low))

    turns_of : (h : Formula) → past_depth h ≤ depth → Turns t (length a) start (Holds t h)
    turns_of h deep = Holds-turns t good depth (length a) start h ta.count at deep

  pub until_follows : IsSweptBack spans.Until a b start row → FollowsTwo Until a b start row
  until_follows each t depth f g good at deep ta tb =
      row_of_values (columns t depth) (length a) (Holds t (Binary Until f g)) row _ ta.count count each
      (λ i h. until_told spans.Until a b (cell a) (cell b) (Holds t f) (Holds t g) (length a) (say_left t depth f g good at ta tb)
      (say_right t depth f g good at ta tb)
      t start (turns_of t depth f g good at ta tb f (omega arith)) (turns_of t depth f g good at ta tb g (omega arith)) (λ j v. refl) i
      (omega (arith, ta.count, h)))

  pub release_follows : IsSweptBack spans.Release a b start row → FollowsTwo Release a b start row
  release_follows each t depth f g good at deep ta tb =
      row_of_values (columns t depth) (length a) (Holds t (Binary Release f g)) row _ ta.count count each
      (λ i h. release_told spans.Release a b (cell a) (cell b) (Holds t f) (Holds t g) (length a) (say_left t depth f g good at ta tb)
      (say_right t depth f g good at ta tb)
      t start (turns_of t depth f g good at ta tb f (omega arith)) (turns_of t depth f g good at ta tb g (omega arith)) (λ j v. refl) i
      (omega (arith, ta.count, h)))

  pub weak_until_follows : IsSweptBack spans.WeakUntil a b start row → FollowsTwo WeakUntil a b start row
  weak_until_follows each t depth f g good at deep ta tb =
      row_of_values (columns t depth) (length a) (Holds t (Binary WeakUntil f g)) row _ ta.count count each
      (λ i h. release_told spans.WeakUntil a b (cell b) (λ j. cell a j || cell b j) (Holds t g) (λ j. Holds t f j ⊎ Holds t g j) (length a)
      (say_right t depth f g good at ta tb)
      (λ j low. or_tells (cell a j) (cell b j) (say_left t depth f g good at ta tb j low) (say_right t depth f g good at ta tb j low))
      t start (turns_of t depth f g good at ta tb g (omega arith)) (turns_of t depth f g good at ta tb (Binary Or f g) deep) (λ j v. refl) i
      (omega (arith, ta.count, h)))

  pub strong_release_follows : IsSweptBack spans.StrongRelease a b start row → FollowsTwo StrongRelease a b start row
  strong_release_follows each t depth f g good at deep ta tb =
      row_of_values (columns t depth) (length a) (Holds t (Binary StrongRelease f g)) row _ ta.count count each
      (λ i h. until_told spans.StrongRelease a b (cell b) (λ j. cell a j && cell b j) (Holds t g) (λ j. Holds t f j × Holds t g j) (length a)
      (say_right t depth f g good at ta tb)
      (λ j low. and_tells (cell a j) (cell b j) (say_left t depth f g good at ta tb j low) (say_right t depth f g good at ta tb j low))
      t start (turns_of t depth f g good at ta tb g (omega arith)) (turns_of t depth f g good at ta tb (Binary And f g) deep) (λ j v. refl) i
      (omega (arith, ta.count, h)))
