-- What the laws of trimmed derivations say.
use Rattle.std.specs.Prelude.{◌≡◌, Contains, ℕ, suc, ◌+◌, ◌<◌, ◌≤◌, Bool, true, List, [], ◌∷◌, ◌++◌, length, map, take, slice_index_or, slice_set, Some, IsTrue}
use Rattle.std.specs.Prelude.{IsFalse}
use Rattle.cnf_base.specs.declared.literal.Literal.{Literal}
use Rattle.cnf_base.specs.declared.literal.Hint.{Hint}
use Rattle.cnf_base.specs.declared.literal.Hint.TheVariants.{Clause, Line}
use Rattle.cnf_base.specs.Step.{IsHintedStep, numbered}
use Rattle.cnf_base.specs.Known.{AreKnown}
use Rattle.clause_log.specs.LogValue.{greatest_u32}
use Rattle.derivation.specs.Steps.{DerivationValue, AreSteps, IsDerivation, with_step}
use Rattle.log_trim.specs.Kept.{Marks, kept, new_number, renumbered, trimmed_to, trimmed, new_numbers, HasHint, IsClosed, AreNumbers}
use Rattle.log_trim.specs.Marking.{marked, IsMarking, IsNeeded, HasTargets, AreNeeded, AddsHints, IsMarkedFrom, AreTheNeeded, AreLines}

-- ---- what is kept

-- they are steps over the same list
abbrev pub TrimmedAreSteps : Type 0
TrimmedAreSteps = (list : List (List Literal)) (log : DerivationValue) (M : Marks) → AreSteps list log → IsClosed log M → AreSteps list (trimmed M log)

-- a marked line has the same literals under its new number
abbrev pub TrimmedKeeps : Type 0
TrimmedKeeps = (log : DerivationValue) (M : Marks) (n : ℕ) (line : List Literal) → IsTrue (M n) → numbered log.lines n ≡ Some line
    → numbered (trimmed M log).lines (new_number M log.lines n) ≡ Some line

-- and so have the targets
abbrev pub TargetsKeep : Type 0
TargetsKeep = (log : DerivationValue) (M : Marks) (targets : List ℕ) (i : ℕ) (line : List Literal) → HasTargets M targets (length targets) → i < length targets
    → numbered log.lines (slice_index_or targets i 0) ≡ Some line
    → numbered (trimmed M log).lines (slice_index_or (new_numbers M log.lines targets) i 0) ≡ Some line

-- no line has a letter that none had before
abbrev pub TrimmedIsKnown : Type 0
TrimmedIsKnown = (log : DerivationValue) (M : Marks) (greatest : ℕ) → AreKnown greatest log.lines → AreKnown greatest (trimmed M log).lines

-- each line is one that was there
abbrev pub TrimmedAreLines : Type 0
TrimmedAreLines = (log : DerivationValue) (M : Marks) (line : List Literal) → Contains (trimmed M log).lines line → Contains log.lines line

-- there are no more lines
abbrev pub TrimmedIsShorter : Type 0
TrimmedIsShorter = (log : DerivationValue) (M : Marks) → length (trimmed M log).lines ≤ length log.lines

-- ---- the loop that pushes: it has trimmed_to M log k after k lines

-- no line gives nothing
abbrev pub PushingStarts : Type 0
PushingStarts = (log : DerivationValue) (M : Marks) → trimmed_to M log 0 ≡ record { lines = []; hints = [] }

-- a marked line is a hinted step with its hints renumbered
abbrev pub PushingMay : Type 0
PushingMay =
    (list : List (List Literal)) (log : DerivationValue) (M : Marks) (k : ℕ) → AreSteps list log → IsClosed log M → k < length log.lines → IsTrue (M (suc k))
    → IsHintedStep list (trimmed_to M log k).lines greatest_u32 (slice_index_or log.lines k []) (map (renumbered M log.lines) (slice_index_or log.hints k []))

-- and then it is kept
abbrev pub PushingGoesOn : Type 0
PushingGoesOn = (log : DerivationValue) (M : Marks) (k : ℕ) → IsDerivation log → k < length log.lines → IsTrue (M (suc k))
    → with_step (trimmed_to M log k) (slice_index_or log.lines k []) (map (renumbered M log.lines) (slice_index_or log.hints k [])) ≡ trimmed_to M log (k + 1)

-- a line without a mark leaves all as it is
abbrev pub PushingSkips : Type 0
PushingSkips =
    (log : DerivationValue) (M : Marks) (k : ℕ) → IsDerivation log → k < length log.lines → IsFalse (M (suc k)) → trimmed_to M log k ≡ trimmed_to M log (k + 1)

-- after the last line it is what is kept
abbrev pub PushingEnds : Type 0
PushingEnds = (log : DerivationValue) (M : Marks) → IsDerivation log → trimmed_to M log (length log.lines) ≡ trimmed M log

-- the table gets the number of lines so far, whether or not the line was marked
abbrev pub TableGoesOn : Type 0
TableGoesOn = (M : Marks) (lines : List (List Literal)) (k n : ℕ) (table : List ℕ) → AreNumbers M lines k table → n ≡ length (kept M (take (k + 1) lines))
    → AreNumbers M lines (k + 1) (table ++ n ∷ [])

-- a hint that line k + 1 has is in the table of the first k lines, and its new number stands there
abbrev pub TableHas : Type 0
TableHas =
    (log : DerivationValue) (M : Marks) (k m : ℕ) (table : List ℕ) → IsDerivation log → k < length log.lines → HasHint log k m → AreNumbers M log.lines k table
    → (0 < m) × (m ≤ k) × ((i : ℕ) → suc i ≡ m → slice_index_or table i 0 ≡ new_number M log.lines m)

-- a hint that is read is there
abbrev pub HintIsThere : Type 0
HintIsThere = (hints : List Hint) (i : ℕ) (d hint : Hint) → i < length hints → slice_index_or hints i d ≡ hint → Contains hints hint

-- ---- the loop that marks, from the last line back: it has IsMarkedFrom b once the lines from b + 1 on are visited

-- a flag that is set is a mark more
abbrev pub SettingMarks : Type 0
SettingMarks = (flags : List Bool) (k : ℕ) → k < length flags → IsMarking (marked flags) (marked (slice_set flags k true)) (suc k)

-- a mark on a target
abbrev pub TargetIsMarked : Type 0
TargetIsMarked = (log : DerivationValue) (targets : List ℕ) (i : ℕ) (M N : Marks) → i < length targets → IsMarking M N (slice_index_or targets i 0)
    → AreNeeded log targets M → HasTargets M targets i
    → AreNeeded log targets N × HasTargets N targets (i + 1)

-- no line is visited yet
abbrev pub MarkingStarts : Type 0
MarkingStarts = (log : DerivationValue) (targets : List ℕ) (M : Marks) → AreNeeded log targets M → HasTargets M targets (length targets)
    → IsMarkedFrom log targets (length log.lines) M

-- no hint is read yet
abbrev pub NoHintsAdd : Type 0
NoHintsAdd = (M : Marks) (hints : List Hint) → AddsHints M M hints 0

-- a mark on the line that the next hint names
abbrev pub HintIsMarked : Type 0
HintIsMarked = (hints : List Hint) (i m : ℕ) (d : Hint) (L M N : Marks) → i < length hints → slice_index_or hints i d ≡ Line m → AddsHints L M hints i
    → IsMarking M N m → AddsHints L N hints (i + 1)

-- a hint that names a clause marks nothing
abbrev pub ClauseIsPassed : Type 0
ClauseIsPassed = (hints : List Hint) (i n : ℕ) (d : Hint) (L M : Marks) → i < length hints → slice_index_or hints i d ≡ Clause n → AddsHints L M hints i
    → AddsHints L M hints (i + 1)

-- a marked line is visited, once what its hints name is marked
abbrev pub LineIsVisited : Type 0
LineIsVisited = (log : DerivationValue) (targets : List ℕ) (k : ℕ) (M N : Marks) → IsDerivation log → k < length log.lines → IsTrue (M (suc k))
    → AddsHints M N (slice_index_or log.hints k []) (length (slice_index_or log.hints k [])) → IsMarkedFrom log targets (suc k) M → IsMarkedFrom log targets k N

-- a line without a mark needs no visit
abbrev pub LineIsPassed : Type 0
LineIsPassed =
    (log : DerivationValue) (targets : List ℕ) (k : ℕ) (M : Marks) → IsFalse (M (suc k)) → IsMarkedFrom log targets (suc k) M → IsMarkedFrom log targets k M

-- all lines are visited
abbrev pub MarkingEnds : Type 0
MarkingEnds =
    (log : DerivationValue) (targets : List ℕ) (M : Marks) → IsDerivation log → IsMarkedFrom log targets 0 M → IsClosed log M × AreTheNeeded log targets M

-- what is needed are lines
abbrev pub NeededAreLines : Type 0
NeededAreLines =
    (log : DerivationValue) (targets : List ℕ) (n : ℕ) → IsDerivation log → AreLines log targets → IsNeeded log targets n → (0 < n) × (n ≤ length log.lines)
