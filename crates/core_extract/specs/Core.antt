-- The core of a formula: what is left where each occurrence is replaced that the formula can do without, so that it stays refuted.
use Rattle.std.specs.Prelude.{◌≡◌, ℕ, zero, suc, ◌⊎◌}
use Rattle.ltl_syntax.specs.declared.node.Kind.{Kind}
use Rattle.ltl_syntax.specs.Formula.{Formula, nodes_in}
use Rattle.ltl_closure.specs.Run.{IsVerdict, Sat, Unsat, Undecided}
use Rattle.enc_layout.specs.Limit.{IsInForce}
use Rattle.ltl_syntax.specs.Replacement.{Places, nowhere, AreSame, IsKept, added, rep}

-- a test tells formulas apart: those that are Closed, where the verdict is UNSAT, and those that are Open, where it is another
pub record Test : Type 1 where
  pub Closed : Formula → Type 0
  pub Open : Formula → Type 0

-- no formula is both
abbrev pub IsExclusive : Test → Type 0
IsExclusive T = (g : Formula) → T.Closed g → T.Open g → ⊥

-- at its own limit in force for the asked number the verdict of the formula is UNSAT
abbrev pub IsRefuted : Kind → ℕ → Formula → Type 0
IsRefuted kind asked g = (d k : ℕ) × IsInForce g kind asked d × IsVerdict g kind d (Unsat k)

-- there it is SAT or UNDECIDED
abbrev pub IsUnrefuted : Kind → ℕ → Formula → Type 0
IsUnrefuted kind asked g = (d k : ℕ) × IsInForce g kind asked d × (IsVerdict g kind d (Sat k) ⊎ IsVerdict g kind d (Undecided k))

-- the test of a core: the tableau's verdict at each formula's limit in force for the asked number
abbrev pub tableau : Kind → ℕ → Test
tableau kind asked = record { Closed = IsRefuted kind asked; Open = IsUnrefuted kind asked }

-- the place n is kept, and with it replaced as well the formula is Closed
abbrev pub IsTaken : Test → Formula → Places → ℕ → Type 0
IsTaken T f P n = IsKept f P n × T.Closed (rep f (added f P n))

-- if the place n is kept, then with it replaced as well the formula is Open
abbrev pub IsLeft : Test → Formula → Places → ℕ → Type 0
IsLeft T f P n = IsKept f P n → T.Open (rep f (added f P n))

-- going through this many places from a place on leads from P to Q
abbrev pub IsWalk : Test → Formula → ℕ → ℕ → Places → Places → Type 0
IsWalk T f zero at P Q = AreSame P Q
IsWalk T f (suc count) at P Q = IsTaken T f P at × IsWalk T f count (suc at) (added f P at) Q ⊎ IsLeft T f P at × IsWalk T f count (suc at) P Q

-- a pass goes through all places, parents before children and left before right
abbrev pub IsPass : Test → Formula → Places → Places → Type 0
IsPass T f P Q = IsWalk T f (nodes_in f) 0 P Q

-- this many passes, each of which changes something, lead from P to Q
abbrev pub AreChanging : Test → Formula → ℕ → Places → Places → Type 0
AreChanging T f zero P Q = AreSame P Q
AreChanging T f (suc passes) P Q = (R : Places) × IsPass T f P R × (AreSame P R → ⊥) × AreChanging T f passes R Q

-- the places that the core replaces: passes lead to them until one changes nothing
abbrev pub IsReached : Test → Formula → Places → Type 0
IsReached T f Q = (passes : ℕ) × AreChanging T f passes nowhere Q × IsPass T f Q Q

-- g is the core of f
abbrev pub IsCore : Test → Formula → Formula → Type 0
IsCore T f g = (Q : Places) × IsReached T f Q × (g ≡ rep f Q)
