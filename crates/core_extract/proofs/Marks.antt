-- Marks: how one is put in place of those under it, and which nodes stand at marked places.
use Rattle.std.proofs.Common.{◌≡◌, ℕ, ◌+◌, ◌<◌, ◌≤◌, ◌⊎◌, inl, inr, subst, ap, arith, sym, refl, ◌∙◌, Bool, true, false, IsTrue, IsFalse, List, [], ◌∷◌, ◌++◌}
use Rattle.std.proofs.Common.{length, get_or, set, Contains, All, replicate}
use Rattle.std.proofs.Math.ListN.{get_or-eq_default}
use Rattle.std.proofs.lemmas.Bool.{cases_lt}
use Rattle.std.proofs.lemmas.List.{get_or-set_same, get_or-set_other, get_or-replicate, length-replicate}
use Rattle.std.proofs.lemmas.List.Elements.{All-nil, All-cons, All-append, Contains-push, Contains-push_cases, Contains-append_left}
use Rattle.ltl_syntax.specs.Flat.{node_at, places_of}
use Rattle.ltl_syntax.specs.Replacement.{nowhere, AreSame, AreApart, IsKept, added}
use Rattle.ltl_syntax.proofs.Places.{one_set, apart_after, added_by_marks}
use Rattle.ltl_syntax.proofs.Distinct.{places_back}
use Rattle.core_extract.specs.declared.task.Task.{Task}
use Rattle.core_extract.specs.Testing.{IsTask, AreMarks, formula_of, marked}
use Rattle.core_extract.proofs.Tasks.{places_all, size_some}

-- ---- a mark in place of those under it

-- the marks under a place are taken off up to before another, and all else is as it was
pub record AreCleared (old new : List Bool) (first under : ℕ) : Type 0 where
  pub off : (k : ℕ) → first < k → k < under → IsFalse (marked new k)
  pub same : (k : ℕ) → (k ≤ first) ⊎ (under ≤ k) → marked new k ≡ marked old k

pub cleared_none : (old : List Bool) (first : ℕ) → AreCleared old old first (first + 1)
cleared_none old first = record { off = λ k low high. absurd (omega arith); same = λ k h. refl }

apart_low : (k first under : ℕ) → first < under → (k ≤ first) ⊎ (under + 1 ≤ k) → k ≡ under → ⊥
apart_low k first under lt (inl le) e = omega arith
apart_low k first under lt (inr le) e = omega arith

pub cleared_more : (old new : List Bool) (first under : ℕ) → first < under → under < length new → AreCleared old new first under
    → AreCleared old (set new under false) first (under + 1)
cleared_more old new first under lt within h = record {
  off = λ k low high. elim (cases_lt k under) [
    | inl before ↦ get_or-set_other new under k false false (λ e. omega arith) ∙ h.off k low before
    | inr at ↦ let here : k ≡ under = omega arith in
        subst (λ m. get_or (set new under false) m false ≡ false) (sym here) (get_or-set_same new under false false within)
  ];
  same = λ k side. get_or-set_other new under k false false (apart_low k first under lt side)
      ∙ h.same k (elim side [ inl le ↦ inl le | inr le ↦ inr (omega arith) ]);
}

module _ (task : Task) (is : IsTask task) where
  pub mark_added : (old new : List Bool) (first under : ℕ) → first < length new → under ≡ first + get_or task.sizes.items first 0
      → first < length task.order.items → AreCleared old new first under
      → AreSame (marked (set new first true)) (added (formula_of task) (marked old) first)
  mark_added old new first under within e low h =
      let size = is.sizes first low in
      added_by_marks (formula_of task) (marked old) (marked (set new first true)) first
      (get_or-set_same new first true false within)
      (λ k above below. get_or-set_other new first k true false (λ x. omega arith) ∙ h.off k above (omega arith))
      (λ k before. get_or-set_other new first k true false (λ x. omega arith) ∙ h.same k (inl (omega arith)))
      (λ k behind. let some = size_some task is first low in get_or-set_other new first k true false (λ x. omega arith) ∙ h.same k (inr (omega arith)))

-- ---- the nodes at marked places

-- the numbers are those of the nodes at marked places before one
pub record AreNodes (order : List ℕ) (marks : List Bool) (place : ℕ) (numbers : List ℕ) : Type 0 where
  pub there : (m : ℕ) → Contains numbers m → (n : ℕ) × (n < place) × IsTrue (marked marks n) × (get_or order n 0 ≡ m)
  pub all : (n : ℕ) → n < place → IsTrue (marked marks n) → Contains numbers (get_or order n 0)

pub nodes_none : (order : List ℕ) (marks : List Bool) → AreNodes order marks 0 []
nodes_none order marks = record { there = λ m (k, lt, e). absurd (omega arith); all = λ n lt p. absurd (omega arith) }

pub nodes_on : (order : List ℕ) (marks : List Bool) (place : ℕ) (numbers : List ℕ) → AreNodes order marks place numbers
    → marked marks place ≡ false → AreNodes order marks (place + 1) numbers
nodes_on order marks place numbers h e = record {
  there = λ m c. let w = h.there m c in let lt = w.1 in (w.0, omega arith, w.2, w.3);
  all = λ n lt p. elim (cases_lt n place) [
    | inl before ↦ h.all n before p
    | inr at ↦ let here : n ≡ place = omega arith in let x : marked marks n ≡ false = ap (marked marks) here ∙ e in cc
  ];
}

pub nodes_more : (order : List ℕ) (marks : List Bool) (place : ℕ) (numbers : List ℕ) → AreNodes order marks place numbers
    → marked marks place ≡ true → AreNodes order marks (place + 1) (numbers ++ get_or order place 0 ∷ [])
nodes_more order marks place numbers h e = record {
  there = λ m c. elim (Contains-push_cases numbers (get_or order place 0) m c) [
    | inl old ↦ let w = h.there m old in let lt = w.1 in (w.0, omega arith, w.2, w.3)
    | inr new ↦ (place, omega arith, e, new)
  ];
  all = λ n lt p. elim (cases_lt n place) [
    | inl before ↦ Contains-append_left numbers (get_or order place 0 ∷ []) (get_or order n 0) (h.all n before p)
    | inr at ↦ let here : place ≡ n = omega arith in
        subst (λ m. Contains (numbers ++ get_or order place 0 ∷ []) (get_or order m 0)) here (Contains-push numbers (get_or order place 0))
  ];
}

module _ (task : Task) (is : IsTask task) where
  pub nodes_places : (marks : List Bool) (numbers : List ℕ) → AreMarks task marks → AreNodes task.order.items marks (length marks) numbers
      → AreSame (places_of task.table.now task.root numbers) (marked marks)
  nodes_places marks numbers am h =
      let all = places_all task is in
      let long = ap length is.order in
      let many = am.long in
      let node : (n : ℕ) → get_or task.order.items n 0 ≡ node_at task.table.now task.root n = λ n. ap (λ xs. get_or xs n 0) is.order in
      places_back task.table.now is.table task.root is.root (marked marks) numbers
      (λ n p. let t = am.apart.there n p in omega arith)
      (λ m. (
        λ c. let w = h.there m c in (w.0, w.2, sym (node w.0) ∙ w.3),
        λ (n, p, e). let t = am.apart.there n p in subst (Contains numbers) (node n ∙ e) (h.all n (omega arith) p),
      ))

-- ---- no marks

pub unmarked : (count : ℕ) → AreSame (marked (replicate count false)) nowhere
unmarked count n = elim (cases_lt n count) [
  | inl lt ↦ get_or-replicate count n false false lt
  | inr past ↦ get_or-eq_default (replicate count false) false (omega (arith, length-replicate count false))
]

-- ---- numbers below a bound, with one more

pub within_more : (bound : ℕ) (xs ys : List ℕ) (x : ℕ) → All (λ n. n < bound) xs → x < bound → ys ≡ xs ++ x ∷ [] → All (λ n. n < bound) ys
within_more bound xs ys x all lt is =
    subst (All (λ n. n < bound)) (sym is) (All-append (λ n. n < bound) xs (x ∷ []) all (All-cons (λ n. n < bound) x [] lt (All-nil (λ n. n < bound))))

-- ---- marks with one kept occurrence added

pub added_marks : (task : Task) (is : IsTask task) (old new : List Bool) (place : ℕ) → AreMarks task old → IsKept (formula_of task) (marked old) place
    → length new ≡ length old
    → AreSame (marked new) (added (formula_of task) (marked old) place) → AreMarks task new
added_marks task is old new place am kept long same = record {
  long = long ∙ am.long;
  apart = subst (AreApart (formula_of task)) (sym (one_set (marked new) (added (formula_of task) (marked old) place) same))
      (apart_after (formula_of task) (marked old) place am.apart kept);
}
