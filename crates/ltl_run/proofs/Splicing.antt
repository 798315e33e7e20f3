-- Two runs, joined where they have one carry.
use Rattle.std.proofs.Common.{◌≡◌, ℕ, suc, ◌+◌, ◌-◌, ◌<◌, ◌≤◌, inl, inr, ap, arith, sym, refl, ◌∙◌, Contains, le-leb}
use Rattle.std.proofs.lemmas.Bool.{cases_lt, cases_order, cond-true, cond-false, lt-leb}
use Rattle.ltl_syntax.specs.Formula.{Formula}
use Rattle.ltl_closure.specs.Norm.{Norm}
use Rattle.ltl_closure.specs.Closure.{nexts, yesterdays, argument}
use Rattle.ltl_closure.specs.Run.{States, IsRun, val, carry, spliced}
use Rattle.ltl_run.proofs.Carry.{OneCarry-from}

pub spliced_low : (r : States) (p : ℕ) (u : States) (q n : ℕ) → n ≤ p → spliced r p u q n ≡ r n
spliced_low r p u q n h = cond-true _ _ _ (le-leb n p h)

pub spliced_high : (r : States) (p : ℕ) (u : States) (q n : ℕ) → p < n → spliced r p u q n ≡ u (n - p + q)
spliced_high r p u q n h = cond-false _ _ _ (lt-leb n p h)

-- the first states of a run
pub run_prefix : (f : Formula) (k : ℕ) (r : States) → IsRun f k r → (m : ℕ) → m ≤ k → IsRun f m r
run_prefix f k r run m le = record {
  root = run.root;
  yesterday = run.yesterday;
  weak_yesterday = run.weak_yesterday;
  next = λ i lt. run.next i (omega arith);
  before = λ i lt. run.before i (omega arith);
}

module _ (f : Formula) (p : ℕ) (r : States) (first : IsRun f p r) (k : ℕ) (u : States) (second : IsRun f k u) (q : ℕ) (le : q ≤ k)
    (one : carry f (r p) ≡ carry f (u q)) where
  spliced_next : (n : ℕ) → n < p + (k - q) → (e : Norm) → Contains (nexts f) e → spliced r p u q n e ≡ val (spliced r p u q (suc n)) (argument e)
  spliced_next n h e in' = elim (cases_order n p) [
    | inl same ↦
        let c = OneCarry-from f (r p) (u q) one in
        let move : suc n - p + q ≡ suc q = omega arith in
        rw (spliced_low r p u q n (omega arith), spliced_high r p u q (suc n) (omega arith), move, same) (c.next e in' ∙ second.next q (omega arith) e in')
    | inr w ↦ elim w [
      | inl below ↦ rw (spliced_low r p u q n (omega arith), spliced_low r p u q (suc n) (omega arith)) (first.next n below e in')
      | inr above ↦
          let move : suc n - p + q ≡ suc (n - p + q) = omega arith in
          rw (spliced_high r p u q n above, spliced_high r p u q (suc n) (omega arith), move) (second.next (n - p + q) (omega arith) e in')
    ]
  ]

  spliced_before : (n : ℕ) → n < p + (k - q) → (e : Norm) → Contains (yesterdays f) e → spliced r p u q (suc n) e ≡ val (spliced r p u q n) (argument e)
  spliced_before n h e in' = elim (cases_order n p) [
    | inl same ↦
        let c = OneCarry-from f (r p) (u q) one in
        let move : suc n - p + q ≡ suc q = omega arith in
        rw (spliced_low r p u q n (omega arith), spliced_high r p u q (suc n) (omega arith), move, same)
        (second.before q (omega arith) e in' ∙ sym (c.before e in'))
    | inr w ↦ elim w [
      | inl below ↦ rw (spliced_low r p u q n (omega arith), spliced_low r p u q (suc n) (omega arith)) (first.before n below e in')
      | inr above ↦
          let move : suc n - p + q ≡ suc (n - p + q) = omega arith in
          rw (spliced_high r p u q n above, spliced_high r p u q (suc n) (omega arith), move) (second.before (n - p + q) (omega arith) e in')
    ]
  ]

  pub spliced_runs : IsRun f (p + (k - q)) (spliced r p u q)
  spliced_runs = record {
    root = rw (spliced_low r p u q 0 (omega arith)) first.root;
    yesterday = λ a h. rw (spliced_low r p u q 0 (omega arith)) (first.yesterday a h);
    weak_yesterday = λ a h. rw (spliced_low r p u q 0 (omega arith)) (first.weak_yesterday a h);
    next = spliced_next;
    before = spliced_before;
  }

  -- the last state has the carry of the second run's last state
  pub spliced_last : carry f (spliced r p u q (p + (k - q))) ≡ carry f (u k)
  spliced_last = elim (cases_lt q k) [
    | inl lt ↦
        let move : p + (k - q) - p + q ≡ k = omega arith in
        rw (spliced_high r p u q (p + (k - q)) (omega arith), move) refl
    | inr ge ↦
        let move : p + (k - q) ≡ p = omega arith in
        let same : q ≡ k = omega arith in
        rw (spliced_low r p u q (p + (k - q)) (omega arith), move) (one ∙ ap (λ n. carry f (u n)) same)
  ]
