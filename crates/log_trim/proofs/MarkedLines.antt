-- The marked lines of a derivation are one.
use Rattle.std.proofs.Common.{◌≡◌, ℕ, zero, suc, ◌<◌, ◌≤◌, inl, inr, Bool, true, false, IsTrue, IsFalse, List, [], ◌∷◌, ◌++◌, length, take, map, get_or, Some}
use Rattle.std.proofs.Common.{Contains, refl, sym, ap, ap₂, subst, ◌∙◌, arith, length-append}
use Rattle.std.proofs.lemmas.Bool.{cases_lt}
use Rattle.std.proofs.lemmas.List.{map-append, get_or-map, get_or_append_left, get_or_at}
use Rattle.std.proofs.lemmas.Option.{slice_get_within, get_or_from_slice_get}
use Rattle.cnf_base.specs.declared.literal.Literal.{Literal}
use Rattle.cnf_base.specs.declared.literal.Hint.{Hint}
use Rattle.cnf_base.specs.declared.literal.Hint.TheVariants.{Clause, Line}
use Rattle.cnf_base.specs.Step.{numbered, IsHintedStep}
use Rattle.clause_log.specs.LogValue.{greatest_u32}
use Rattle.derivation.specs.Steps.{DerivationValue, AreSteps, IsDerivation, lines_by, with_step}
use Rattle.derivation.proofs.Renaming.{IsCarried, step_renamed}
use Rattle.derivation.proofs.Lines.{named_line, hint_earlier as earlier, step_added}
use Rattle.log_trim.specs.Kept.{Marks, kept, new_number, renumbered, trimmed_to, trimmed, new_numbers, HasHint, IsClosed, AreNumbers}
use Rattle.log_trim.specs.Marking.{HasTargets}
use Rattle.log_trim.proofs.Keeping.{kept_yes, kept_no, kept_all, kept_at}

-- the new number of a marked line is one more than there are marked lines before it
pub number_is : (M : Marks) (lines : List (List Literal)) (j : ℕ) → j < length lines → IsTrue (M (suc j))
    → new_number M lines (suc j) ≡ suc (length (kept M (take j lines)))
number_is M lines j lt marked = ap length (kept_yes M lines j [] lt marked) ∙ (omega (arith, length-append (kept M (take j lines)) (get_or lines j [] ∷ [])))

-- a marked line among the first k is named by its new number among the kept ones
pub numbered_kept : (M : Marks) (lines : List (List Literal)) (k j : ℕ) → IsTrue (M (suc j)) → j < k → k ≤ length lines
    → numbered (kept M (take k lines)) (new_number M lines (suc j)) ≡ Some (get_or lines j [])
numbered_kept M lines k j marked lt le =
    subst (λ n. numbered (kept M (take k lines)) n ≡ Some (get_or lines j [])) (sym (number_is M lines j (omega arith) marked))
    (kept_at M lines k j [] marked lt le)

-- a hint that names a line names an earlier one
pub hint_earlier : (log : DerivationValue) → IsDerivation log → (k m : ℕ) → k < length log.lines → HasHint log k m → (0 < m) × (m ≤ k)
hint_earlier log (list, are) k m lt c = earlier list log are k m lt c

module _ (log : DerivationValue) (M : Marks) where
  module _ (list : List (List Literal)) (are : AreSteps list log) (closed : IsClosed log M) where
    carried : (k : ℕ) → k < length log.lines → IsTrue (M (suc k)) → (hint : Hint) → Contains (get_or log.hints k []) hint
        → IsCarried list (take k log.lines) list (kept M (take k log.lines)) greatest_u32 (renumbered M log.lines) hint
    carried k lt marked (Clause n) c = record { clause = λ clause e. e; line = λ m e. absurd (cc) }
    carried k lt marked (Line m) c = record {
      clause = λ clause e.
          let l = named_line log.lines k m clause (omega arith) e in
          let at = closed k m (omega arith) lt marked c in
          let marked_there = subst (λ n. IsTrue (M n)) l.1 at in
          subst (λ n. numbered (kept M (take k log.lines)) (new_number M log.lines n) ≡ Some clause) (sym l.1)
          (numbered_kept M log.lines k l.0 marked_there l.2 (omega arith) ∙ ap Some l.3);
      line = λ n e. (m, refl);
    }

    pub may : (k : ℕ) → k < length log.lines → IsTrue (M (suc k))
        → IsHintedStep list (kept M (take k log.lines)) greatest_u32 (get_or log.lines k []) (map (renumbered M log.lines) (get_or log.hints k []))
    may k lt marked = step_renamed list (take k log.lines) list (kept M (take k log.lines)) greatest_u32 (renumbered M log.lines) (get_or log.lines k [])
        (get_or log.hints k []) (carried k lt marked) (are.steps k lt)

  module _ (paired : length log.hints ≡ length log.lines) where
    pub goes_on : (k : ℕ) → k < length log.lines → IsTrue (M (suc k))
        → with_step (trimmed_to M log k) (get_or log.lines k []) (map (renumbered M log.lines) (get_or log.hints k [])) ≡ trimmed_to M log (suc k)
    goes_on k lt marked =
        ap₂ lines_by (sym (kept_yes M log.lines k [] lt marked))
        (sym (ap (map (map (renumbered M log.lines))) (kept_yes M log.hints k [] (omega arith) marked)
        ∙ map-append (map (renumbered M log.lines)) (kept M (take k log.hints)) (get_or log.hints k [] ∷ [])))

    pub skips : (k : ℕ) → k < length log.lines → IsFalse (M (suc k)) → trimmed_to M log k ≡ trimmed_to M log (suc k)
    skips k lt unmarked =
        ap₂ lines_by (sym (kept_no M log.lines k [] lt unmarked))
        (sym (ap (map (map (renumbered M log.lines))) (kept_no M log.hints k [] (omega arith) unmarked)))

    pub ends : trimmed_to M log (length log.lines) ≡ trimmed M log
    ends = ap₂ lines_by (kept_all M log.lines)
        (ap (λ n. map (map (renumbered M log.lines)) (kept M (take n log.hints))) (sym paired) ∙ ap (map (map (renumbered M log.lines))) (kept_all M log.hints))

  module _ (list : List (List Literal)) (are : AreSteps list log) (closed : IsClosed log M) where
    first_steps : (k : ℕ) → k ≤ length log.lines → AreSteps list (trimmed_to M log k)
    first_steps zero le = record { paired = refl; steps = λ k lt. absurd (omega arith) }
    first_steps (suc k) le = go (M (suc k)) refl (first_steps k (omega arith))
      where
        go : (b : Bool) → M (suc k) ≡ b → AreSteps list (trimmed_to M log k) → AreSteps list (trimmed_to M log (suc k))
        go true marked before =
            subst (AreSteps list) (goes_on are.paired k (omega arith) marked)
            (step_added list (trimmed_to M log k) (get_or log.lines k []) (map (renumbered M log.lines) (get_or log.hints k [])) before
            (may list are closed k (omega arith) marked))
        go false unmarked before = subst (AreSteps list) (skips are.paired k (omega arith) unmarked) before

    pub trimmed_steps : AreSteps list (trimmed M log)
    trimmed_steps = subst (AreSteps list) (ends are.paired) (first_steps (length log.lines) (omega arith))

-- a marked line keeps its literals
pub line_kept : (M : Marks) (lines : List (List Literal)) (n : ℕ) (line : List Literal) → IsTrue (M n) → numbered lines n ≡ Some line
    → numbered (kept M lines) (new_number M lines n) ≡ Some line
line_kept M lines zero line marked e = absurd (cc)
line_kept M lines (suc j) line marked e =
    let lt : j < length lines = slice_get_within lines j line e in
    subst (λ l. numbered l (new_number M lines (suc j)) ≡ Some line) (kept_all M lines)
    (numbered_kept M lines (length lines) j marked lt (omega arith) ∙ ap Some (get_or_from_slice_get lines j line [] e))

pub target_kept : (M : Marks) (lines : List (List Literal)) (targets : List ℕ) (i : ℕ) (line : List Literal) → HasTargets M targets (length targets)
    → i < length targets → numbered lines (get_or targets i 0) ≡ Some line
    → numbered (kept M lines) (get_or (new_numbers M lines targets) i 0) ≡ Some line
target_kept M lines targets i line marked lt e =
    subst (λ n. numbered (kept M lines) n ≡ Some line) (sym (get_or-map (new_number M lines) targets i 0 0 lt))
    (line_kept M lines (get_or targets i 0) line (marked i lt) e)

-- ---- the table of new numbers

pub table_on : (M : Marks) (lines : List (List Literal)) (k n : ℕ) (table : List ℕ) → AreNumbers M lines k table → n ≡ new_number M lines (suc k)
    → AreNumbers M lines (suc k) (table ++ n ∷ [])
table_on M lines k n table are e = record {
  count = omega (arith, length-append table (n ∷ []), are.count);
  each = λ j lt. elim (cases_lt j k) [
    | inl below ↦ get_or_append_left table (n ∷ []) 0 j (omega (arith, are.count)) ∙ are.each j below
    | inr at ↦
        let last : length table ≡ j = omega (arith, are.count) in
        let same : k ≡ j = omega arith in
        get_or_at table n [] 0 j last ∙ e ∙ ap (λ i. new_number M lines (suc i)) same
  ];
}

pub table_has : (M : Marks) (lines : List (List Literal)) (k m : ℕ) (table : List ℕ) → m ≤ k → AreNumbers M lines k table → (i : ℕ)
    → suc i ≡ m → get_or table i 0 ≡ new_number M lines m
table_has M lines k m table le are i e = are.each i (omega arith) ∙ ap (new_number M lines) e
