-- How a pass goes on by groups of tests, and passes by passes.
use Rattle.std.proofs.Common.{◌≡◌, ℕ, suc, ◌+◌, ◌<◌, ◌≤◌, inl, inr, subst, ap, arith, sym, refl, ◌∙◌, Bool, true, false, List, [], ◌∷◌, ◌++◌, length, get_or}
use Rattle.std.proofs.Common.{Option, Some, None, IfSome, replicate}
use Rattle.std.proofs.lemmas.Bool.{cases_lt}
use Rattle.std.proofs.lemmas.List.{length-append, length-replicate}
use Rattle.std.proofs.Math.ListN.{get_or-append}
use Rattle.std.proofs.Math.Seq.{get_or-append_seam}
use Rattle.ltl_syntax.specs.Formula.{Formula, nodes_in}
use Rattle.ltl_syntax.specs.Replacement.{Places, nowhere, AreSame, AreApart, IsKept, IsClear, part_at, size_at, added, rep}
use Rattle.ltl_syntax.proofs.Places.{one_set, nodes_some, part_within, nowhere_apart, clear_kept, clear_next, clear_behind, clear_after}
use Rattle.core_extract.specs.declared.task.Task.{Task}
use Rattle.core_extract.specs.declared.testing.Outcome.{Outcome}
use Rattle.core_extract.specs.declared.testing.Outcome.TheVariants as outcomes
use Rattle.core_extract.specs.declared.passing.Advance.TheVariants as advances
use Rattle.ltl_syntax.specs.declared.node.Kind.{Kind}
use Rattle.ltl_syntax.specs.Table.{Table, tree_at}
use Rattle.core_extract.specs.Core.{IsTaken, IsLeft, IsWalk, IsPass, AreChanging, IsReached, IsCore, tableau}
use Rattle.core_extract.specs.Testing.{IsTask, AreMarks, IsTested, AreTested, AreLeft, AreNext, IsFirstClosed, IsStep, IsSettled, IsPassed, formula_of, test_of}
use Rattle.core_extract.specs.Testing.{marked}
use Rattle.core_extract.proofs.Kept.{kept_count}
use Rattle.core_extract.proofs.Walks.{walk_none, walk_same, walk_on_idle, walk_on_taken_behind, taken_other, walk_falls}
use Rattle.core_extract.proofs.Cores.{passes_more}
use Rattle.core_extract.proofs.Tasks.{places_all, size_within}
use Rattle.core_extract.proofs.Marks.{unmarked}

-- ---- the next kept occurrences

module _ (f : Formula) (P : Places) (at : ℕ) where
  pub next_none : (places : List ℕ) → length places ≡ 0 → AreNext f P at at places
  next_none places none =
      record { each = λ i lt. absurd (omega arith); all = λ k low high kept. absurd (omega arith); ascending = λ i j lt low. absurd (omega arith) }

  -- places that are not kept are passed over
  pub next_past : (stop next : ℕ) (places : List ℕ) → AreNext f P at stop places → stop ≤ next → ((k : ℕ) → stop ≤ k → k < next → IsKept f P k → ⊥)
      → AreNext f P at next places
  next_past stop next places h le none = record {
    each = λ i lt. let w = h.each i lt in let high = w.1 in (w.0, omega arith, w.2);
    all = λ k low high kept. elim (cases_lt k stop) [
      | inl before ↦ h.all k low before kept
      | inr behind ↦ absurd (none k behind high kept)
    ];
    ascending = h.ascending;
  }

  -- and one that is kept is the next
  pub next_more : (stop : ℕ) (places : List ℕ) → AreNext f P at stop places → at ≤ stop → IsKept f P stop → AreNext f P at (stop + 1) (places ++ stop ∷ [])
  next_more stop places h le kept = record {
    each = λ i lt. elim (cases_lt i (length places)) [
      | inl before ↦ let e = old i before in let w = h.each i before in let high = w.1 in let low = w.0 in
          (omega arith, omega arith, subst (IsKept f P) (sym e) w.2)
      | inr last ↦ let e = new i (omega (arith, long)) in (omega arith, omega arith, subst (IsKept f P) (sym e) kept)
    ];
    all = λ k low high kept'. elim (cases_lt k stop) [
      | inl before ↦ let w = h.all k low before kept' in let lt = w.1 in (w.0, omega (arith, long, lt), old w.0 w.1 ∙ w.2)
      | inr last ↦ let here : stop ≡ k = omega arith in (length places, omega (arith, long), new (length places) refl ∙ here)
    ];
    ascending = λ i j lt low. elim (cases_lt j (length places)) [
      | inl before ↦ let a = old i (omega arith) in let b = old j before in let x = h.ascending i j lt before in omega arith
      | inr last ↦ let a = old i (omega (arith, long)) in let b = new j (omega (arith, long)) in let x = (h.each i (omega (arith, long))).1 in omega arith
    ];
  } where
    long : length (places ++ stop ∷ []) ≡ length places + 1
    long = length-append places (stop ∷ [])

    old : (i : ℕ) → i < length places → get_or (places ++ stop ∷ []) i 0 ≡ get_or places i 0
    old i lt = get_or-append places (stop ∷ []) 0 i lt

    new : (i : ℕ) → i ≡ length places → get_or (places ++ stop ∷ []) i 0 ≡ stop
    new i e = ap (λ m. get_or (places ++ stop ∷ []) m 0) e ∙ get_or-append_seam places stop [] 0

-- ---- what a group of tests found

-- one test more is Open
pub one_open : (found : List Outcome) (index : ℕ)
    → get_or found index outcomes.NoMemory ≡ outcomes.Open → ((i : ℕ) → i < index → get_or found i outcomes.NoMemory ≡ outcomes.Open)
    → (i : ℕ) → i < index + 1 → get_or found i outcomes.NoMemory ≡ outcomes.Open
one_open found index e h i lt = elim (cases_lt i index) [
  | inl before ↦ h i before
  | inr here ↦ let same : i ≡ index = omega arith in ap (λ n. get_or found n outcomes.NoMemory) same ∙ e
]

module _ (task : Task) (P : Places) (at stop : ℕ) (places : List ℕ) (found : List Outcome) (next : AreNext (formula_of task) P at stop places)
    (long : length found ≡ length places)
    (tested : (i : ℕ) (d : Outcome) → i < length places → IsTested task P (get_or places i 0) (get_or found i d)) where
  open_at : (i : ℕ) → i < length places → get_or found i outcomes.NoMemory ≡ outcomes.Open → (k : ℕ)
      → get_or places i 0 ≡ k → IsLeft (test_of task) (formula_of task) P k
  open_at i lt e k here kept = subst (λ n. IsTested task P n outcomes.Open) here (subst (IsTested task P (get_or places i 0)) e (tested i outcomes.NoMemory lt))

  pub all_left : IsFirstClosed found None → AreLeft task P at stop
  all_left first k low high kept =
      let w = next.all k low high kept in
      let lt = w.1 in
      open_at w.0 w.1 (first w.0 (omega arith)) k w.2 kept

  module _ (n : ℕ) (first : IsFirstClosed found (Some n)) where
    pub closed_within : n < length places
    closed_within = let lt = first.0 in omega arith

    pub closed_taken : IsTaken (test_of task) (formula_of task) P (get_or places n 0)
    closed_taken = ((next.each n closed_within).2, subst (IsTested task P (get_or places n 0)) first.1 (tested n outcomes.NoMemory closed_within))

    pub left_before : AreLeft task P at (get_or places n 0)
    left_before k low high kept =
        let inside = (next.each n closed_within).1 in
        let w = next.all k low (omega arith) kept in
        elim (cases_lt w.0 n) [
          | inl before ↦ open_at w.0 w.1 (first.2 w.0 before) k w.2 kept
          | inr behind ↦ elim (cases_lt n w.0) [
            | inl later ↦ let up = next.ascending n w.0 later w.1 in let e = w.2 in absurd (omega arith)
            | inr same ↦ let one : w.0 ≡ n = omega arith in let e = ap (λ m. get_or places m 0) one in let d = w.2 in absurd (omega arith)
          ]
        ]

-- ---- a pass by groups

-- what a pass has done so far: nothing, and what was settled before stays so, or it changed something and has gone on since
pub IsGoing : Task → Places → Places → ℕ → ℕ → Option ℕ → ℕ → Type 0
IsGoing task S P at end None settled = AreSame S P × (end ≡ settled)
IsGoing task S P at end (Some n) settled = (AreSame S P → ⊥) × (n ≤ at) × AreLeft task P n at × (end ≡ length task.order.items)

pub record IsUnderWay (task : Task) (S P : Places) (at : ℕ) : Type 0 where
  pub within : at ≤ length task.order.items
  pub walk : IsWalk (test_of task) (formula_of task) at 0 S P
  pub clear : IsClear (formula_of task) P at

module _ (task : Task) (is : IsTask task) where
  abbrev f' : Formula
  f' = formula_of task

  -- an occurrence that is kept is clear
  kept_clear : (P : Places) (n : ℕ) → IsKept f' P n → IsClear f' P n
  kept_clear P n kept m lt p = elim (cases_lt n (m + size_at f' m)) [
    | inl inside ↦ absurd (kept.above m p (lt, inside))
    | inr le ↦ le
  ]

  pub going_first : (S : Places) → IsUnderWay task S S 0
  going_first S = record { within = omega arith; walk = walk_none (test_of task) f' 0 S; clear = λ m lt p. absurd (omega arith) }

  pub going_none : (S : Places) (settled : ℕ) → IsGoing task S S 0 settled None settled
  unfolding IsGoing
  going_none S settled = (λ n. refl, refl)

  pub last_within : (S P : Places) (at end settled : ℕ) (last : Option ℕ) → IsUnderWay task S P at → IsGoing task S P at end last settled
      → IfSome last (λ n. n ≤ length task.order.items)
  unfolding IsGoing
  last_within S P at end settled None under h = tt
  last_within S P at end settled (Some n) under h = let w = under.within in let le = h.1 in omega arith

  module _ (S P Q : Places) (at : ℕ) (under : IsUnderWay task S P at) where
    pub under_left : (next : ℕ) → IsStep task P at (advances.Left next) Q → IsUnderWay task S Q next
    under_left next (low, high, same, left, clear) =
        let all = places_all task is in
        let one = one_set P Q same in
        record {
          within = omega arith;
          walk = walk_same (test_of task) f' next 0 S P Q (walk_on_idle (test_of task) f' at next S P under.walk (omega arith) left) same;
          clear = subst (λ X. IsClear f' X next) one clear;
        }

    pub going_left : (end settled next : ℕ) (last : Option ℕ) → IsStep task P at (advances.Left next) Q → IsGoing task S P at end last settled
        → IsGoing task S Q next end last settled
    unfolding IsGoing
    going_left end settled next None (low, high, same, left, clear) h = ((λ n. h.0 n ∙ same n), h.1)
    going_left end settled next (Some n) (low, high, same, left, clear) h =
        let one = one_set P Q same in
        let le = h.1 in (
          subst (λ X. AreSame S X → ⊥) one h.0,
          omega arith,
          subst (λ X. AreLeft task X n next) one (λ k above below. elim (cases_lt k at) [
            | inl before ↦ h.2 k above before
            | inr behind ↦ left k behind below
          ]),
          h.3,
        )

    module _ (next : ℕ) (step : IsStep task P at (advances.Taken next) Q) where
      to_place : IsWalk (test_of task) f' step.0 0 S P
      to_place = walk_on_idle (test_of task) f' at step.0 S P under.walk step.1 step.2

      pub under_taken : IsUnderWay task S Q next
      under_taken =
          let place = step.0 in
          let all = places_all task is in
          let there = step.3.0.there in
          let w = part_within f' place there in
          let e = step.4 in
          let same : AreSame (added f' P place) Q = λ n. sym (step.5 n) in
          let walk = walk_same (test_of task) f' (place + size_at f' place) 0 S (added f' P place) Q
          (walk_on_taken_behind (test_of task) f' place S P to_place step.3) same in
          let clear = subst (λ X. IsClear f' X (place + size_at f' place)) (one_set (added f' P place) Q same)
          (clear_after f' P place (kept_clear P place step.3.0)) in
          record {
            within = omega arith;
            walk = subst (λ n. IsWalk (test_of task) f' n 0 S Q) (sym e) walk;
            clear = subst (λ n. IsClear f' Q n) (sym e) clear;
          }

      pub going_taken : (end settled : ℕ) → end ≡ length task.order.items → IsGoing task S Q next end (Some next) settled
      unfolding IsGoing
      going_taken end settled all =
          let place = step.0 in
          let same : AreSame (added f' P place) Q = λ n. sym (step.5 n) in (
            subst (λ X. AreSame S X → ⊥) (one_set (added f' P place) Q same) (taken_other (test_of task) f' place S P to_place step.3),
            omega arith,
            (λ k above below. absurd (omega arith)),
            all,
          )

  -- the end of a pass
  pub passed : (S P : Places) (at end settled : ℕ) (last : Option ℕ) → IsUnderWay task S P at → IsGoing task S P at end last settled
      → end ≤ at → IsSettled task S settled → IsPassed task S last P
  unfolding IsGoing
  passed S P at end settled None under h le set =
      let all = places_all task is in
      let one = one_set S P h.0 in
      let within = under.within in
      let e = h.1 in
      let walk : IsWalk (test_of task) f' at 0 S S = subst (λ X. IsWalk (test_of task) f' at 0 S X) (sym one) under.walk in
      (h.0, walk_on_idle (test_of task) f' at (nodes_in f') S S walk (omega arith) (λ k low high. set k (omega arith)))
  passed S P at end settled (Some n) under h le set =
      let all = places_all task is in
      let within = under.within in
      let e = h.3 in
      let here : at ≡ nodes_in f' = omega arith in (
        subst (λ m. IsWalk (test_of task) f' m 0 S P) here under.walk,
        h.0,
        λ k above kept. let lt = kept.there in h.2 k above (omega arith) kept,
      )

  -- ---- passes

  pub marks_none : (count : ℕ) → count ≡ length task.order.items → AreMarks task (replicate count false)
  marks_none count e = record {
    long = length-replicate count false ∙ e;
    apart = subst (AreApart f') (sym (one_set (marked (replicate count false)) nowhere (unmarked count))) (nowhere_apart f');
  }

  pub settled_end : (P : Places) → IsSettled task P (length task.order.items)
  settled_end P k low kept = let all = places_all task is in let lt = kept.there in absurd (omega arith)

  pub changing_none : (count : ℕ) → AreChanging (test_of task) f' 0 nowhere (marked (replicate count false))
  changing_none count n = sym (unmarked count n)

  -- a pass that changed something
  module _ (P Q : Places) (n : ℕ) (passed' : IsPassed task P (Some n) Q) where
    pub changing_more : ((m : ℕ) × AreChanging (test_of task) f' m nowhere P) → (m : ℕ) × AreChanging (test_of task) f' m nowhere Q
    changing_more w = (suc w.0, passes_more (test_of task) f' w.0 nowhere P Q w.1 passed'.0 passed'.1)

    pub fewer_kept : kept_count f' Q < kept_count f' P
    fewer_kept = elim (walk_falls (test_of task) f' (nodes_in f') 0 P Q passed'.0) [
      | inl x ↦ absurd (passed'.1 x.0)
      | inr lt ↦ lt
    ]

  -- and one that changed nothing
  pub reached : (P Q : Places) → IsPassed task P None Q → ((m : ℕ) × AreChanging (test_of task) f' m nowhere P) → IsReached (test_of task) f' Q
  reached P Q w changing =
      let one = one_set P Q w.0 in
      (changing.0, subst (AreChanging (test_of task) f' changing.0 nowhere) one changing.1, subst (λ X. IsPass (test_of task) f' X X) one w.1)

-- ---- the next kept occurrences, marked or not

module _ {task : Task} {marks : List Bool} {at stop : ℕ} {places : List ℕ} (is : IsTask task) (am : AreMarks task marks)
    (next : AreNext (formula_of task) (marked marks) at stop places)
    (clear : IsClear (formula_of task) (marked marks) stop) (on : at ≤ stop) (low : stop < length task.order.items) where
  -- behind a marked place the next ones are behind what is under it
  module _ (size : ℕ) (is_size : get_or task.sizes.items stop 0 ≡ size) (here : marked marks stop ≡ true) where
    same_size : size ≡ size_at (formula_of task) stop
    same_size = sym is_size ∙ is.sizes stop low

    pub passes_over : AreNext (formula_of task) (marked marks) at (stop + size) places
    passes_over = next_past (formula_of task) (marked marks) at stop (stop + size) places next (omega arith) (λ k above below kept. elim (cases_lt stop k) [
      | inl under ↦ let e = same_size in kept.above stop here (under, omega arith)
      | inr at' ↦ let same : k ≡ stop = omega arith in let x : marked marks k ≡ true = ap (marked marks) same ∙ here in let y = kept.free in cc
    ])

    pub clear_over : IsClear (formula_of task) (marked marks) (stop + size)
    clear_over = subst (λ n. IsClear (formula_of task) (marked marks) (stop + n)) (sym same_size)
        (clear_behind (formula_of task) (marked marks) stop clear am.apart here)

    pub ends_within : stop + size ≤ length task.order.items
    ends_within = let w = size_within task is stop low in let e = is_size in omega arith

  -- an unmarked one is kept
  module _ (here : marked marks stop ≡ false) where
    pub is_next : AreNext (formula_of task) (marked marks) at (stop + 1) (places ++ stop ∷ [])
    is_next =
        let all = places_all task is in
        next_more (formula_of task) (marked marks) at stop places next on (clear_kept (formula_of task) (marked marks) stop clear (omega arith) here)

    pub clear_next_to : IsClear (formula_of task) (marked marks) (stop + 1)
    clear_next_to = let one : suc stop ≡ stop + 1 = omega arith in
        subst (IsClear (formula_of task) (marked marks)) one (clear_next (formula_of task) (marked marks) stop clear here)

-- each of the next kept occurrences is kept
pub all_kept : (f : Formula) (P : Places) (at stop : ℕ) (places : List ℕ) → AreNext f P at stop places → (i : ℕ) → i < length places
    → IsKept f P (get_or places i 0)
all_kept f P at stop places next i lt = (next.each i lt).2

-- ---- a step of a pass

-- it goes on where it takes an occurrence
pub taken_on : (task : Task) (P Q : Places) (at next : ℕ) → IsStep task P at (advances.Taken next) Q → at < next
taken_on task P Q at next step =
    let some = nodes_some (part_at (formula_of task) step.0) in
    let a = step.1 in
    let e = step.4 in omega arith

module _ {task : Task} {marks : List Bool} {at stop : ℕ} {places : List ℕ} {found : List Outcome} (is : IsTask task)
    (tested : AreTested task marks places found) (next : AreNext (formula_of task) (marked marks) at stop places) where
  pub step_left : at < stop → stop ≤ length task.order.items → IsClear (formula_of task) (marked marks) stop → IsFirstClosed found None
      → IsStep task (marked marks) at (advances.Left stop) (marked marks)
  step_left on within clear first = (
    on,
    (let all = places_all task is in omega arith),
    λ n. refl,
    all_left task (marked marks) at stop places found next tested.long tested.each first,
    clear,
  )

  module _ (index : ℕ) (first : IsFirstClosed found (Some index)) where
    pub index_within : index < length places
    index_within = closed_within task (marked marks) at stop places found next tested.long tested.each index first

    module _ (place : ℕ) (place_is : get_or places index 0 ≡ place) where
      pub place_taken : IsTaken (test_of task) (formula_of task) (marked marks) place
      place_taken = subst (IsTaken (test_of task) (formula_of task) (marked marks)) place_is
          (closed_taken task (marked marks) at stop places found next tested.long tested.each index first)

      pub place_within : place < length task.order.items
      place_within = let all = places_all task is in let there = place_taken.0.there in omega arith

      pub step_taken : (size : ℕ) (marks' : List Bool)
          → get_or task.sizes.items place 0 ≡ size → AreSame (marked marks') (added (formula_of task) (marked marks) place)
          → IsStep task (marked marks) at (advances.Taken (place + size)) (marked marks')
      step_taken size marks' size_is with_it = (
        place,
        (let w = (next.each index index_within).0 in omega arith),
        subst (AreLeft task (marked marks) at) place_is (left_before task (marked marks) at stop places found next tested.long tested.each index first),
        place_taken,
        ap (λ n. place + n) (sym size_is ∙ is.sizes place place_within),
        with_it,
      )

-- ---- the answer

pub core_of : (task : Task) (t : Table) (root asked : ℕ) (kind : Kind) (g : Formula) (Q : Places)
    → task.table.now ≡ t → task.root ≡ root → task.kind ≡ kind → task.asked ≡ asked → IsReached (test_of task) (formula_of task) Q → g ≡ rep (formula_of task) Q
    → IsCore (tableau kind asked) (tree_at t root) g
core_of task t root asked kind g Q same_table same_root same_kind same_asked reached e =
    let one : IsCore (tableau task.kind task.asked) (tree_at task.table.now task.root) g = (Q, reached, e) in
    let two : IsCore (tableau task.kind task.asked) (tree_at t root) g = subst (λ r. IsCore (tableau task.kind task.asked) (tree_at t r) g) same_root
    (subst (λ (x : Table). IsCore (tableau task.kind task.asked) (tree_at x task.root) g) same_table one) in
    subst (λ n. IsCore (tableau kind n) (tree_at t root) g) same_asked (subst (λ k. IsCore (tableau k task.asked) (tree_at t root) g) same_kind two)
