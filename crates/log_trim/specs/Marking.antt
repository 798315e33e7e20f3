-- How the lines that some lines stand on are marked, from the last line back to the first.
use Rattle.std.specs.Prelude.{◌≡◌, ℕ, zero, suc, ◌<◌, ◌≤◌, ◌⊎◌, ◌↔◌, Bool, false, List, length, take, slice_index_or, IsTrue, Contains}
use Rattle.cnf_base.specs.declared.literal.Hint.{Hint}
use Rattle.cnf_base.specs.declared.literal.Hint.TheVariants.{Line}
use Rattle.derivation.specs.Steps.{DerivationValue}
use Rattle.log_trim.specs.Kept.{Marks, HasHint, IsClosedFrom}

-- the marks of a list of flags, one for each line
abbrev pub marked : List Bool → Marks
marked flags zero = false
marked flags (suc k) = slice_index_or flags k false

-- N marks m and what M marks
abbrev pub IsMarking : Marks → Marks → ℕ → Type 0
IsMarking M N m = (n : ℕ) → IsTrue (N n) ↔ (IsTrue (M n) ⊎ (n ≡ m))

-- a target, or a line that a needed line names
pub data IsNeeded (log : DerivationValue) (targets : List ℕ) : ℕ → Type 0 where
  target : {n : ℕ} (i : ℕ) → i < length targets → slice_index_or targets i 0 ≡ n → IsNeeded log targets n
  named : {m : ℕ} (k : ℕ) → IsNeeded log targets (suc k) → HasHint log k m → IsNeeded log targets m

-- the first i targets are marked
abbrev pub HasTargets : Marks → List ℕ → ℕ → Type 0
HasTargets M targets i = (j : ℕ) → j < i → IsTrue (M (slice_index_or targets j 0))

-- what is marked is needed
abbrev pub AreNeeded : DerivationValue → List ℕ → Marks → Type 0
AreNeeded log targets M = (n : ℕ) → IsTrue (M n) → IsNeeded log targets n

-- N marks what M marks and the lines that the first i hints name
abbrev pub AddsHints : Marks → Marks → List Hint → ℕ → Type 0
AddsHints M N hints i = (n : ℕ) → IsTrue (N n) ↔ (IsTrue (M n) ⊎ Contains (take i hints) (Line n))

-- what the walk keeps, once the lines from b + 1 on are visited
pub record IsMarkedFrom (log : DerivationValue) (targets : List ℕ) (b : ℕ) (M : Marks) : Type 0 where
  pub has : HasTargets M targets (length targets)
  pub needed : AreNeeded log targets M
  pub closed : IsClosedFrom log M b

-- exactly what is needed is marked
abbrev pub AreTheNeeded : DerivationValue → List ℕ → Marks → Type 0
AreTheNeeded log targets M = (n : ℕ) → IsTrue (M n) ↔ IsNeeded log targets n

-- each target is the number of a line
abbrev pub AreLines : DerivationValue → List ℕ → Type 0
AreLines log targets = (i : ℕ) → i < length targets → (0 < slice_index_or targets i 0) × (slice_index_or targets i 0 ≤ length log.lines)
