-- What the laws of cores say. They are stated for both kinds of trace.
use Rattle.std.specs.Prelude.{◌≡◌, ℕ, ◌≤◌, ◌⊎◌}
use Rattle.ltl_syntax.specs.declared.node.Kind.{Kind}
use Rattle.ltl_syntax.specs.Formula.{Formula}
use Rattle.ltl_syntax.specs.Size.{formula_size}
use Rattle.ltl_syntax.specs.Replacement.{Places, AreApart, IsKept, added, rep}
use Rattle.ltl_run.specs.Laws.{HasNoTrace}
use Rattle.enc_layout.specs.Limit.{IsInForce}
use Rattle.core_extract.specs.Core.{tableau, IsRefuted, IsUnrefuted, IsReached, IsCore}

-- no formula is refuted at its limit in force and is not
abbrev pub TestsAreOne : Type 0
TestsAreOne = (kind : Kind) (asked : ℕ) (g : Formula) → IsRefuted kind asked g → IsUnrefuted kind asked g → ⊥

-- a formula has one core
abbrev pub CoreIsOne : Type 0
CoreIsOne = (kind : Kind) (asked : ℕ) (f g h : Formula) → IsCore (tableau kind asked) f g → IsCore (tableau kind asked) f h → g ≡ h

-- a formula within the limit on sizes has a limit in force
abbrev pub LimitIsThere : Type 0
LimitIsThere = (f : Formula) (kind : Kind) (asked : ℕ) → formula_size f ≤ 16384 → (d : ℕ) × IsInForce f kind asked d

-- there it is refuted or unrefuted
abbrev pub TestsDecide : Type 0
TestsDecide = (kind : Kind) (asked : ℕ) (g : Formula) → formula_size g ≤ 16384 → IsRefuted kind asked g ⊎ IsUnrefuted kind asked g

-- and it has a core
abbrev pub CoreIsThere : Type 0
CoreIsThere = (kind : Kind) (asked : ℕ) (f : Formula) → formula_size f ≤ 16384 → (g : Formula) × IsCore (tableau kind asked) f g

-- the core of a refuted formula is refuted
abbrev pub CoreIsRefuted : Type 0
CoreIsRefuted = (kind : Kind) (asked : ℕ) (f g : Formula) → IsRefuted kind asked f → IsCore (tableau kind asked) f g → IsRefuted kind asked g

-- and has no trace of the kind
abbrev pub CoreHasNoTrace : Type 0
CoreHasNoTrace = (kind : Kind) (asked : ℕ) (f g : Formula) → IsRefuted kind asked f → IsCore (tableau kind asked) f g → HasNoTrace kind g

-- with one further kept occurrence replaced its verdict at the limit in force is SAT or UNDECIDED
abbrev pub CoreIsLeast : Type 0
CoreIsLeast = (kind : Kind) (asked : ℕ) (f : Formula) (Q : Places) (n : ℕ) → IsReached (tableau kind asked) f Q → IsKept f Q n
    → IsUnrefuted kind asked (rep f (added f Q n))

-- none of the replaced occurrences is under another
abbrev pub CoreIsApart : Type 0
CoreIsApart = (kind : Kind) (asked : ℕ) (f : Formula) (Q : Places) → IsReached (tableau kind asked) f Q → AreApart f Q
