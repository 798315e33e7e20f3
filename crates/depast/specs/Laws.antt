-- What the laws say of a formula and the one without its past operators.
use Rattle.std.specs.Prelude.{◌≡◌, ℕ, ◌+◌, ◌<◌, ◌≤◌, length, ◌^◌, ◌⊎◌, ◌↔◌, Contains}
use Rattle.ltl_syntax.specs.declared.node.Kind.{Kind}
use Rattle.ltl_syntax.specs.Formula.{Formula, Const, Letter, Unary, Binary}
use Rattle.ltl_syntax.specs.Size.{formula_size}
use Rattle.ltl_word.specs.declared.trace.Trace.{Trace}
use Rattle.ltl_word.specs.Trace.{IsTrace, IsOfKind, IsPosition}
use Rattle.ltl_word.specs.Holds.{Holds, Satisfies}
use Rattle.depast.specs.Depast.{taken, residue, axioms, letter_for, depast}
use Rattle.depast.specs.Lifting.{IsLifted, IsLowered}
use Rattle.depast.specs.Future.{IsFuture}

-- g is a part of f whose names have the numbers from m on, where those of f have the numbers from n on
abbrev pub IsPart : Formula → ℕ → Formula → ℕ → Type 0
IsPart (Const b) n g m = (Const b ≡ g) × (n ≡ m)
IsPart (Letter p) n g m = (Letter p ≡ g) × (n ≡ m)
IsPart (Unary op a) n g m = ((Unary op a ≡ g) × (n ≡ m)) ⊎ IsPart a n g m
IsPart (Binary op a b) n g m = ((Binary op a b ≡ g) × (n ≡ m)) ⊎ (IsPart a n g m ⊎ IsPart b (n + taken a) g m)

-- the names are few enough to be told apart by their numbers
abbrev pub HasFewNames : Formula → Type 0
HasFewNames f = taken f ≤ 2 ^ 64

-- a formula takes no more names than its size
abbrev pub NamesAreFew : Type 0
NamesAreFew = (f : Formula) → taken f ≤ formula_size f

abbrev pub FewNames : Type 0
FewNames = (f : Formula) → formula_size f ≤ 16384 → HasFewNames f

-- the formula without past is larger than that number
abbrev pub EachHasAxiom : Type 0
EachHasAxiom = (f : Formula) → (length (axioms (letter_for f) 0 f) ≡ taken f) × (taken f < formula_size (depast f))

abbrev pub FewWhereSmall : Type 0
FewWhereSmall = (f : Formula) → formula_size (depast f) ≤ 16384 → HasFewNames f

-- nothing in it looks back
abbrev pub IsWithoutPast : Type 0
IsWithoutPast = (f : Formula) → IsFuture (depast f)

-- in a lifted trace the residue of each part holds where the part held
abbrev pub ResiduesAgree : Type 0
ResiduesAgree = (f g : Formula) (m : ℕ) (t u : Trace) (i : ℕ) → IsTrace t → IsLifted f t u → IsPart f 0 g m → IsPosition t i
    → Holds u (residue (letter_for f) m g) i ↔ Holds t g i

-- and it satisfies each axiom
abbrev pub AxiomsHold : Type 0
AxiomsHold = (f x : Formula) (t u : Trace) → IsTrace t → IsLifted f t u → Contains (axioms (letter_for f) 0 f) x → Satisfies u x

-- each trace is lifted to one of its kind
abbrev pub TracesAreLifted : Type 0
TracesAreLifted =
    (f : Formula) (t : Trace) (kind : Kind) → HasFewNames f → IsTrace t → IsOfKind t kind → (u : Trace) × IsTrace u × IsOfKind u kind × IsLifted f t u

-- a lifted trace of one that satisfies f satisfies the formula without past
abbrev pub LiftedSatisfy : Type 0
LiftedSatisfy = (f : Formula) (t u : Trace) → IsTrace t → IsLifted f t u → Satisfies t f → Satisfies u (depast f)

-- each trace is lowered to one of its kind
abbrev pub TracesAreLowered : Type 0
TracesAreLowered = (f : Formula) (u : Trace) (kind : Kind) → IsTrace u → IsOfKind u kind → (t : Trace) × IsTrace t × IsOfKind t kind × IsLowered f u t

-- a lowered trace of one that satisfies the formula without past satisfies f
abbrev pub LoweredSatisfy : Type 0
LoweredSatisfy = (f : Formula) (u t : Trace) → IsTrace u → IsLowered f u t → Satisfies u (depast f) → Satisfies t f

-- the one has a trace of a kind exactly where the other has
abbrev pub AreEquisatisfiable : Type 0
AreEquisatisfiable = (f : Formula) (kind : Kind) → HasFewNames f
    → ((t : Trace) × IsTrace t × IsOfKind t kind × Satisfies t f) ↔ ((u : Trace) × IsTrace u × IsOfKind u kind × Satisfies u (depast f))
