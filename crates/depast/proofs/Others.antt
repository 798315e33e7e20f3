-- States without the new names, and the trace of them.
use Rattle.std.proofs.Common.{◌≡◌, ℕ, ◌+◌, ◌-◌, ◌%◌, ◌<◌, ◌↔◌, inl, inr, sym, ◌∙◌, ap, subst, arith, lt-ltb, le-ltb, List, [], ◌∷◌, ◌++◌, length}
use Rattle.std.proofs.Common.{slice_index_or, Contains}
use Rattle.std.proofs.Math.ListN.{get_or-append, get_or-eq_default}
use Rattle.std.proofs.Math.Seq.{get_or-append_seam}
use Rattle.std.proofs.lemmas.Bool.{cases_lt, cond-true, cond-false}
use Rattle.std.proofs.lemmas.List.{get_or_default}
use Rattle.std.proofs.lemmas.List.Elements.{Contains-append_left, Contains-append_right, Contains-append_cases}
use Rattle.ltl_syntax.specs.Formula.{Formula}
use Rattle.ltl_word.specs.declared.trace.Trace.{Trace}
use Rattle.ltl_word.specs.declared.trace.Trace.TheVariants.{Infinite, Finite}
use Rattle.ltl_word.specs.Trace.{Names, state_at}
use Rattle.depast.specs.Depast.{taken}
use Rattle.depast.specs.Names.{most_leading, new_name}
use Rattle.depast.specs.Lifting.{IsOld, IsLowered, HasLiftedShape}
use Rattle.depast.specs.Removal.{AreNewNames}
use Rattle.depast.specs.States.{AreOthers, AreLowered}
use Rattle.ltl_syntax.proofs.Members.{Contains-nil, Contains-cons_cases}

-- ---- one name more

one_only : (x name : List ℕ) → Contains (x ∷ []) name → x ≡ name
one_only x name c = elim (Contains-cons_cases x [] name c) [ inl e ↦ e | inr r ↦ absurd (Contains-nil name r) ]

pub others_kept : (new names others : Names) (x : List ℕ) → AreOthers new names others → (Contains new x → ⊥)
    → AreOthers new (names ++ x ∷ []) (others ++ x ∷ [])
others_kept new names others x are old name = (
  λ c. elim (Contains-append_cases others (x ∷ []) name c) [
    | inl l ↦ let w = (are name).0 l in (Contains-append_left names (x ∷ []) name w.0, w.1)
    | inr r ↦ (Contains-append_right names (x ∷ []) name r, λ n. old (subst (Contains new) (sym (one_only x name r)) n))
  ],
  λ w. elim (Contains-append_cases names (x ∷ []) name w.0) [
    | inl l ↦ Contains-append_left others (x ∷ []) name ((are name).1 (l, w.1))
    | inr r ↦ Contains-append_right others (x ∷ []) name r
  ],
)

pub others_left : (new names others : Names) (x : List ℕ) → AreOthers new names others → Contains new x → AreOthers new (names ++ x ∷ []) others
others_left new names others x are is name = (
  λ c. let w = (are name).0 c in (Contains-append_left names (x ∷ []) name w.0, w.1),
  λ w. elim (Contains-append_cases names (x ∷ []) name w.0) [
    | inl l ↦ (are name).1 (l, w.1)
    | inr r ↦ absurd (w.1 (subst (Contains new) (one_only x name r) is))
  ],
)

-- ---- one state more

pub lowered_more : (new : Names) (states lowered lowered' : List Names) (n : ℕ) (state low others : Names)
    → length lowered ≡ n → lowered' ≡ lowered ++ low ∷ [] → slice_index_or states n [] ≡ state
    → ((i : ℕ) → i < n → AreOthers new (slice_index_or states i []) (slice_index_or lowered i [])) → AreOthers new state others
    → ((name : List ℕ) → Contains low name ↔ Contains others name)
    → (i : ℕ) → i < n + 1 → AreOthers new (slice_index_or states i []) (slice_index_or lowered' i [])
lowered_more new states lowered lowered' n state low others long e at each are same i lt =
    subst (λ xs. AreOthers new (slice_index_or states i []) (slice_index_or xs i [])) (sym e)
    (elim (cases_lt i n) [
      | inl before ↦ subst (AreOthers new (slice_index_or states i [])) (sym (get_or-append lowered (low ∷ []) [] i (omega arith))) (each i before)
      | inr after ↦
          let here : n ≡ i = omega arith in
          let there : slice_index_or (lowered ++ low ∷ []) i [] ≡ low =
          ap (λ k. slice_index_or (lowered ++ low ∷ []) k []) (sym here ∙ sym long) ∙ get_or-append_seam lowered low [] [] in
          let is : AreOthers new state low = λ name. (λ c. (are name).0 ((same name).0 c), λ w. (same name).1 ((are name).1 w)) in
          subst (λ k. AreOthers new (slice_index_or states k []) (slice_index_or (lowered ++ low ∷ []) i [])) here
          (subst (λ s. AreOthers new s (slice_index_or (lowered ++ low ∷ []) i [])) (sym at) (subst (AreOthers new state) (sym there) is))
    ])

-- ---- the new names of a formula

module _ (f : Formula) (new names : Names) (are : AreNewNames f names) (same : (name : List ℕ) → Contains new name ↔ Contains names name) where
  -- an old name is none of them
  pub old_left : (name : List ℕ) → IsOld f name → Contains new name → ⊥
  old_left name old c =
      let w = (same name).0 c in
      let low : w.0 < taken f = omega (arith, w.1, are.count) in
      let is : name ≡ new_name (most_leading f) w.0 = sym w.2 ∙ (get_or_default names w.0 name [] w.1 ∙ are.each w.0 low) in
      old w.0 low is

  pub new_there : (k : ℕ) → k < taken f → Contains new (new_name (most_leading f) k)
  new_there k lt =
      let low : k < length names = omega (arith, are.count) in
      (same (new_name (most_leading f) k)).1 (k, low, get_or_default names k (new_name (most_leading f) k) [] low ∙ are.each k lt)

  none_others : AreOthers new [] []
  none_others name = (λ c. absurd (Contains-nil name c), λ w. w.0)

  -- at each number
  all_others : (states lowered : List Names) → AreLowered new states lowered → (i : ℕ)
      → AreOthers new (slice_index_or states i []) (slice_index_or lowered i [])
  all_others states lowered low i = elim (cases_lt i (length states)) [
    | inl within ↦ low.each i within
    | inr past ↦
        subst (λ s. AreOthers new s (slice_index_or lowered i [])) (sym (get_or-eq_default states [] past))
        (subst (AreOthers new []) (sym (get_or-eq_default lowered [] (let n = low.count in omega arith))) none_others)
  ]

  -- where the states of one trace are those of the other without the new names
  from_others : (u t : Trace) → ((i : ℕ) → AreOthers new (state_at u i) (state_at t i)) → HasLiftedShape 0 u t → IsLowered f u t
  from_others u t others shape = record {
    shape = shape;
    old_names = λ i at name old. (λ c. ((others i name).0 c).0, λ c. (others i name).1 (c, old_left name old));
    new_names = λ i at k lt c. ((others i (new_name (most_leading f) k)).0 c).1 (new_there k lt);
  }

  pub finite_lowered : (states lowered : List Names) → AreLowered new states lowered → IsLowered f (Finite states) (Finite lowered)
  finite_lowered states lowered low = from_others (Finite states) (Finite lowered) (all_others states lowered low) low.count

  pub infinite_lowered : (stem loop_part stem' loop_part' : List Names) → AreLowered new stem stem' → AreLowered new loop_part loop_part'
      → IsLowered f (Infinite stem loop_part) (Infinite stem' loop_part')
  infinite_lowered stem loop_part stem' loop_part' low round =
      from_others (Infinite stem loop_part) (Infinite stem' loop_part') each (let n = low.count in omega arith, round.count) where
        each : (i : ℕ) → AreOthers new (state_at (Infinite stem loop_part) i) (state_at (Infinite stem' loop_part') i)
        each i = elim (cases_lt i (length stem)) [
          | inl before ↦
              let e : state_at (Infinite stem loop_part) i ≡ slice_index_or stem i [] = cond-true _ _ _ (lt-ltb i (length stem) before) in
              let d : state_at (Infinite stem' loop_part') i ≡ slice_index_or stem' i [] =
              cond-true _ _ _ (lt-ltb i (length stem') (let n = low.count in omega arith)) in
              subst (λ s. AreOthers new s (state_at (Infinite stem' loop_part') i)) (sym e)
              (subst (AreOthers new (slice_index_or stem i [])) (sym d) (all_others stem stem' low i))
          | inr after ↦
              let e : state_at (Infinite stem loop_part) i ≡ slice_index_or loop_part ((i - length stem) % length loop_part) [] =
              cond-false _ _ _ (le-ltb i (length stem) after) in
              let d : state_at (Infinite stem' loop_part') i ≡ slice_index_or loop_part' ((i - length stem) % length loop_part) [] =
              cond-false _ _ _ (le-ltb i (length stem') (let n = low.count in omega arith))
              ∙ (ap (λ n. slice_index_or loop_part' ((i - n) % length loop_part') []) low.count
              ∙ ap (λ n. slice_index_or loop_part' ((i - length stem) % n) []) round.count) in
              subst (λ s. AreOthers new s (state_at (Infinite stem' loop_part') i)) (sym e)
              (subst (AreOthers new (slice_index_or loop_part ((i - length stem) % length loop_part) [])) (sym d)
              (all_others loop_part loop_part' round ((i - length stem) % length loop_part)))
        ]
