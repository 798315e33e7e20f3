-- The steps of the loops, over plain lists.
use Rattle.std.proofs.Common.{◌≡◌, ℕ, suc, ◌+◌, ◌-◌, ◌<◌, ◌≤◌, Bool, true, false, List, [], ◌∷◌, ◌++◌, length, take, map, get_or, slice_get, set, Contains}
use Rattle.std.proofs.Common.{Some, sym, ap, ap₂, subst, ◌∙◌, arith, add-one}
use Rattle.std.proofs.lemmas.List.{take_more, map-append}
use Rattle.std.proofs.lemmas.Option.{get_or_from_slice_get}
use Rattle.cnf_base.specs.declared.literal.Literal.{Literal}
use Rattle.cnf_base.specs.declared.literal.Hint.{Hint}
use Rattle.cnf_base.specs.declared.literal.Hint.TheVariants.{Line}
use Rattle.cnf_base.specs.Step.{clause_at}
use Rattle.clause_log.specs.LogValue.{hints_at}
use Rattle.derivation.specs.Steps.{DerivationValue, IsDerivation, lines_by, with_step}
use Rattle.log_trim.specs.Kept.{Marks, new_number, renumbered, trimmed_to, AreNumbers}
use Rattle.log_trim.specs.Marking.{marked, IsMarking, AddsHints, HasTargets, AreNeeded, AreLines, IsMarkedFrom, AreTheNeeded}
use Rattle.log_trim.proofs.MarkedLines.{hint_earlier, goes_on, skips, table_on, table_has}
use Rattle.log_trim.proofs.Marks.{setting, target_marked, hint_marked, line_visited, ended, all_added, moved, there, default_moves}

-- what was read is the member, whatever the default
pub read_at : {X : Type 0} (xs : List X) (i : ℕ) (r d : X) → i < length xs → r ≡ get_or xs i r → get_or xs i d ≡ r
read_at xs i r d lt e = default_moves xs i d r lt ∙ sym e

-- a hint that was told
pub told_at : (hs : List Hint) (i : ℕ) (hint x d : Hint) → slice_get hs i ≡ Some hint → hint ≡ x → get_or hs i d ≡ x
told_at hs i hint x d told e = get_or_from_slice_get hs i x d (told ∙ ap Some e)

-- a line's flag is set
marking_at : (flags : List Bool) (line : ℕ) → 0 < line → line ≤ length flags → IsMarking (marked flags) (marked (set flags (line - 1) true)) line
marking_at flags line low high =
    let place : suc (line - 1) ≡ line = omega arith in
    subst (IsMarking (marked flags) (marked (set flags (line - 1) true))) place (setting flags (line - 1) (omega arith))

pub flag_on : (hints : List Hint) (i line : ℕ) (d : Hint) (L : Marks) (flags new : List Bool) → i < length hints → get_or hints i d ≡ Line line
    → 0 < line → line ≤ length flags → new ≡ set flags (line - 1) true
    → AddsHints L (marked flags) hints i → AddsHints L (marked new) hints (i + 1)
flag_on hints i line d L flags new lt at low high e adds =
    subst (λ (fs : List Bool). AddsHints L (marked fs) hints (i + 1)) (sym e)
    (rw (add-one i) (hint_marked hints i line L (marked flags) (marked (set flags (line - 1) true)) lt (moved hints i d (Line line) lt at) adds
    (marking_at flags line low high)))

pub target_on : (log : DerivationValue) (targets : List ℕ) (i : ℕ) (flags : List Bool) → i < length targets → AreLines log targets
    → length flags ≡ length log.lines
    → AreNeeded log targets (marked flags) → HasTargets (marked flags) targets i
    → AreNeeded log targets (marked (set flags (get_or targets i 0 - 1) true)) × HasTargets (marked (set flags (get_or targets i 0 - 1) true)) targets (i + 1)
target_on log targets i flags lt lines long needed has =
    let w = lines i lt in
    rw (add-one i) (target_marked log targets i (marked flags) (marked (set flags (get_or targets i 0 - 1) true)) lt
    (marking_at flags (get_or targets i 0) w.0 (omega (arith, w.1))) needed has)

pub line_on : (log : DerivationValue) (targets : List ℕ) (left : ℕ) (flags new : List Bool) (hs : List Hint) → IsDerivation log
    → 0 < left → left ≤ length log.lines → get_or flags (left - 1) false ≡ true
    → hs ≡ hints_at log.hints left → AddsHints (marked flags) (marked new) hs (length hs) → IsMarkedFrom log targets left (marked flags)
    → IsMarkedFrom log targets (left - 1) (marked new)
line_on log targets left flags new hs is low high at e adds w =
    let place : left ≡ suc (left - 1) = omega arith in
    line_visited log targets (left - 1) (marked flags) (marked new) is (omega arith) at
    (all_added (marked flags) (marked new) (get_or log.hints (left - 1) [])
    (subst (λ (h : List Hint). AddsHints (marked flags) (marked new) h (length h)) e adds))
    (subst (λ n. IsMarkedFrom log targets n (marked flags)) place w)

pub all_needed : (log : DerivationValue) (targets : List ℕ) (left : ℕ) (M : Marks) → IsDerivation log → left ≤ 0 → IsMarkedFrom log targets left M
    → AreTheNeeded log targets M
all_needed log targets left M is low w =
    let none : left ≡ 0 = omega arith in
    (ended log targets M is (subst (λ n. IsMarkedFrom log targets n M) none w)).1

-- where a hint points to
pub hint_at : (log : DerivationValue) (k : ℕ) (hs : List Hint) (i : ℕ) (d : Hint) (m : ℕ) → IsDerivation log → k < length log.lines
    → hs ≡ hints_at log.hints (k + 1) → i < length hs → get_or hs i d ≡ Line m → (0 < m) × (m ≤ k)
hint_at log k hs i d m is lt e below at =
    let back : k + 1 - 1 ≡ k = omega arith in
    let same : hs ≡ get_or log.hints k [] = e ∙ ap (λ n. get_or log.hints n []) back in
    hint_earlier log is k m lt (subst (λ (h : List Hint). Contains h (Line m)) same (there hs i d (Line m) below at))

pub hints_within : (log : DerivationValue) (left m : ℕ) (hs : List Hint) → IsDerivation log → 0 < left → left ≤ length log.lines → hs ≡ hints_at log.hints left
    → Contains hs (Line m) → (0 < m) × (m ≤ length log.lines)
hints_within log left m hs is low high e c =
    let w = hint_earlier log is (left - 1) m (omega arith) (subst (λ (h : List Hint). Contains h (Line m)) e c) in
    (w.0, omega (arith, w.1))

pub table_read : (M : Marks) (lines : List (List Literal)) (k m r : ℕ) (table : List ℕ) → 0 < m → m ≤ k → AreNumbers M lines k table
    → r ≡ get_or table (m - 1) r → r ≡ new_number M lines m
table_read M lines k m r table low high are e =
    let lt : m - 1 < length table = omega (arith, are.count) in
    sym (read_at table (m - 1) r 0 lt e) ∙ table_has M lines k m table high are (m - 1) (omega arith)

-- one member more is mapped
pub map_on : {X Y : Type 0} (f : X → Y) (xs : List X) (i : ℕ) (d x : X) (y : Y) (old new : List Y) → i < length xs → get_or xs i d ≡ x → y ≡ f x
    → old ≡ map f (take i xs) → new ≡ old ++ y ∷ [] → new ≡ map f (take (i + 1) xs)
map_on f xs i d x y old new lt at e before after =
    after ∙ (ap₂ (λ o z. o ++ z ∷ []) before (e ∙ ap f (sym at))
    ∙ (sym (map-append f (take i xs) (get_or xs i d ∷ [])) ∙ ap (map f) (sym (take_more xs i d lt))))

-- ---- one line

module _ (log : DerivationValue) (flags : List Bool) (k : ℕ) (is : IsDerivation log) (lt : k < length log.lines) where
  line_same : clause_at log.lines (k + 1) ≡ get_or log.lines k []
  line_same = let back : k + 1 - 1 ≡ k = omega arith in ap (λ n. get_or log.lines n []) back

  pub push_on : (old next : List (List Literal)) (old_hints next_hints : List (List Hint)) (line : List Literal) (hints mapped : List Hint)
      → get_or flags k false ≡ true → lines_by old old_hints ≡ trimmed_to (marked flags) log k
      → line ≡ clause_at log.lines (k + 1) → hints ≡ mapped → mapped ≡ map (renumbered (marked flags) log.lines) (get_or log.hints k [])
      → next ≡ old ++ line ∷ [] → next_hints ≡ old_hints ++ hints ∷ []
      → lines_by next next_hints ≡ trimmed_to (marked flags) log (k + 1)
  push_on old next old_hints next_hints line hints mapped at e l h i n m =
      ap₂ lines_by n m ∙ (ap (λ (o : DerivationValue). with_step o line hints) e
      ∙ (ap₂ (λ (x : List Literal) (hs : List Hint). with_step (trimmed_to (marked flags) log k) x hs) (l ∙ line_same) (h ∙ i)
      ∙ rw (add-one k) (goes_on log (marked flags) is.1.paired k lt at)))

  pub pass_on : (lines : List (List Literal)) (hints : List (List Hint)) → get_or flags k false ≡ false → lines_by lines hints ≡ trimmed_to (marked flags) log k
      → lines_by lines hints ≡ trimmed_to (marked flags) log (k + 1)
  pass_on lines hints at e = e ∙ rw (add-one k) (skips log (marked flags) is.1.paired k lt at)

  pub table_step : (lines : List (List Literal)) (hints : List (List Hint)) (count : ℕ) (table next : List ℕ) → AreNumbers (marked flags) log.lines k table
      → lines_by lines hints ≡ trimmed_to (marked flags) log (k + 1)
      → count ≡ length lines → next ≡ table ++ count ∷ [] → AreNumbers (marked flags) log.lines (k + 1) next
  table_step lines hints count table next are e c n =
      let number : count ≡ new_number (marked flags) log.lines (k + 1) = c ∙ ap (λ (l : DerivationValue). length l.lines) e in
      subst (AreNumbers (marked flags) log.lines (k + 1)) (sym n)
      (rw (add-one k) (table_on (marked flags) log.lines k count table are (rw (add-one k) at number)))
