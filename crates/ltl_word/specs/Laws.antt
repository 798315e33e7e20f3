-- What the laws of `laws.rt` say.
use Rattle.std.specs.Prelude.{◌≡◌, ◌≢◌, Result, Err, ℕ, ◌+◌, ◌*◌, ◌<◌, ◌≤◌, ◌⊎◌, ◌↔◌, List, length, Contains}
use Rattle.ltl_syntax.specs.Formula.{Atom, Formula}
use Rattle.ltl_word.specs.declared.trace.Trace.{Trace}
use Rattle.ltl_word.specs.declared.trace.Trace.TheVariants.{Infinite}
use Rattle.ltl_word.specs.Trace.{Names, IsTrace, IsPosition, state_at}
use Rattle.ltl_word.specs.Holds.{Holds, name_of}
use Rattle.ltl_word.specs.Depth.{past_depth}
use Rattle.ltl_word.specs.declared.json.TraceFault.{TraceFault}
use Rattle.ltl_word.specs.declared.json.TraceFault.TheVariants.{NoMemory}
use Rattle.ltl_word.specs.Json.{IsReading}
use Rattle.ltl_word.specs.Propositional.{IsPropositional, HasLetter}

-- a formula with past operators nested at most h deep repeats with the loop, from h loops after the stem on
abbrev pub IsPeriodic : Type 0
IsPeriodic = (stem loop_part : List Names) (f : Formula) (h i : ℕ) → 0 < length loop_part → past_depth f ≤ h → length stem + h * length loop_part ≤ i
    → Holds (Infinite stem loop_part) f i ↔ Holds (Infinite stem loop_part) f (i + length loop_part)

-- a formula holds at a position or it does not
abbrev pub EachIsDecided : Type 0
EachIsDecided = (t : Trace) (f : Formula) (i : ℕ) → IsTrace t → Holds t f i ⊎ (Holds t f i → ⊥)

-- two formulas hold at the same numbers of each trace
abbrev pub AreEquivalent : Formula → Formula → Type 0
AreEquivalent f g = (t : Trace) (i : ℕ) → IsTrace t → Holds t f i ↔ Holds t g i

-- two formulas hold at the same positions of each trace
abbrev pub AreEquivalentAtPositions : Formula → Formula → Type 0
AreEquivalentAtPositions f g = (t : Trace) (i : ℕ) → IsTrace t → IsPosition t i → Holds t f i ↔ Holds t g i

-- a formula without temporal operators depends on its state alone
abbrev pub DependsOnState : Type 0
DependsOnState = (t u : Trace) (f : Formula) (i j : ℕ) → IsPropositional f → ((name : List ℕ) → Contains (state_at t i) name ↔ Contains (state_at u j) name)
    → Holds t f i ↔ Holds u f j

-- and of it on its own letters alone
abbrev pub DependsOnLetters : Type 0
DependsOnLetters = (t u : Trace) (f : Formula) (i j : ℕ) → IsPropositional f
    → ((p : Atom) → HasLetter f p → Contains (state_at t i) (name_of p) ↔ Contains (state_at u j) (name_of p))
    → Holds t f i ↔ Holds u f j

-- two readings of the same bytes are one, where memory was not wanting
abbrev pub IsOneReading : Type 0
IsOneReading = (bytes : List ℕ) (r s : Result Trace TraceFault) → IsReading bytes r → IsReading bytes s → r ≢ Err NoMemory → s ≢ Err NoMemory → r ≡ s

-- bytes have a reading, which is not want of memory
abbrev pub EachIsRead : Type 0
EachIsRead = (bytes : List ℕ) → (r : Result Trace TraceFault) × (r ≢ Err NoMemory) × IsReading bytes r
