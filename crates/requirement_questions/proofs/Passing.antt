-- Going over the occurrences once: what is before a place, replaced or not, does not reach it, and nothing from it on is replaced.
use Rattle.std.proofs.Common.{◌≡◌, ◌∙◌, ℕ, suc, ◌+◌, ◌<◌, ◌≤◌, inl, inr, Bool, false, IsFalse, List, length, get_or, replicate, sym, ap, subst, arith}
use Rattle.std.proofs.lemmas.Bool.{cases_Bool}
use Rattle.std.proofs.lemmas.List.{length-replicate}
use Rattle.ltl_syntax.specs.Formula.{Formula}
use Rattle.ltl_syntax.specs.Replacement.{nowhere, AreSame, AreApart, IsKept, IsClear, added, size_at}
use Rattle.ltl_syntax.proofs.Places.{one_set, added_cases, clear_kept, clear_next, clear_after, nowhere_apart}
use Rattle.core_extract.specs.declared.task.Task.{Task}
use Rattle.core_extract.specs.Testing.{IsTask, AreMarks, formula_of, marked}
use Rattle.core_extract.proofs.Marks.{unmarked, added_marks}
use Rattle.core_extract.proofs.Tasks.{places_all, size_some, size_within}

-- the marks up to a place
pub record AreBefore (task : Task) (marks : List Bool) (at : ℕ) : Type 0 where
  pub are : AreMarks task marks
  pub clear : IsClear (formula_of task) (marked marks) at
  pub off : (k : ℕ) → at ≤ k → IsFalse (marked marks k)
  pub within : at ≤ length task.order.items

off_after : (f : Formula) (P : ℕ → Bool) (at k : ℕ) → ((j : ℕ) → at ≤ j → IsFalse (P j)) → at < k → IsFalse (added f P at k)
off_after f P at k off lt = elim (cases_Bool (added f P at k)) [
  | inl on ↦ elim (added_cases f P at k on) [
    | inl here ↦ absurd (omega arith)
    | inr before ↦ let was = off k (omega arith) in let is = before.0 in cc
  ]
  | inr is ↦ is
]

module _ (task : Task) (is : IsTask task) where
  pub before_none : (marks : List Bool) (at : ℕ) → marks ≡ replicate (length task.order.items) false → at ≤ length task.order.items → AreBefore task marks at
  before_none marks at e le =
      let same : AreSame (marked marks) nowhere = subst (λ ms. AreSame (marked ms) nowhere) (sym e) (unmarked (length task.order.items)) in
      record {
        are = record {
          long = ap length e ∙ length-replicate (length task.order.items) false;
          apart = subst (AreApart (formula_of task)) (sym (one_set (marked marks) nowhere same)) (nowhere_apart (formula_of task));
        };
        clear = λ m lt p. let off = same m in cc;
        off = λ k low. same k;
        within = le;
      }

  module _ (marks : List Bool) (at : ℕ) (before : AreBefore task marks at) (lt : at < length task.order.items) where
    pub before_kept : IsKept (formula_of task) (marked marks) at
    before_kept = clear_kept (formula_of task) (marked marks) at before.clear (let all = places_all task is in omega arith) (before.off at (omega arith))

    pub before_next : AreBefore task marks (at + 1)
    before_next = record {
      are = before.are;
      clear = subst (IsClear (formula_of task) (marked marks)) (let e : suc at ≡ at + 1 = omega arith in e)
          (clear_next (formula_of task) (marked marks) at before.clear (before.off at (omega arith)));
      off = λ k low. before.off k (omega arith);
      within = omega arith;
    }

    pub before_marked : (new : List Bool) (size : ℕ) → length new ≡ length marks → AreSame (marked new) (added (formula_of task) (marked marks) at)
        → get_or task.sizes.items at 0 ≡ size
        → AreBefore task new (at + size)
    before_marked new size long same e =
        let f = formula_of task in
        let one = one_set (marked new) (added f (marked marks) at) same in
        let sized : size ≡ size_at f at = sym e ∙ is.sizes at lt in
        let some = size_some task is at lt in
        let end = size_within task is at lt in
        record {
          are = added_marks task is marks new at before.are before_kept long same;
          clear = subst (IsClear f (marked new)) (ap (λ n. at + n) (sym sized))
              (subst (λ P. IsClear f P (at + size_at f at)) (sym one) (clear_after f (marked marks) at before.clear));
          off = λ k low. same k ∙ off_after f (marked marks) at k before.off (omega arith);
          within = omega arith;
        }
