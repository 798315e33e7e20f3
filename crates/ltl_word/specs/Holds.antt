-- The meaning of a formula at a position of a trace: the usual one of linear temporal logic with past.
use Rattle.std.specs.Prelude.{ℕ, List, ◌∷◌, ◌++◌, [], ◌⊎◌, ◌↔◌, IsTrue, Contains}
use Rattle.std.specs.Fmt.{decimal}
use Rattle.ltl_syntax.specs.Shape.{shape}
use Rattle.ltl_syntax.specs.Formula.{Atom, Name, Fresh, Formula, Const, Letter, Unary, Binary}
use Rattle.ltl_syntax.specs.declared.node.BinaryOp.TheVariants.{And, Iff, Implies, Or, Release, Since, StrongRelease, Trigger, Until, WeakUntil}
use Rattle.ltl_word.specs.declared.trace.Trace.{Trace}
use Rattle.ltl_word.specs.Trace.{IsPosition, state_at}
use Rattle.ltl_word.specs.Claims.{Claim, OfShape, IsUntil, IsReleased, IsSince, IsTriggered}

-- the name of a letter: a fresh letter n is {n}
abbrev pub name_of : Atom → List ℕ
name_of (Name bytes) = bytes
name_of (Fresh n) = 123 ∷ (decimal n ++ 125 ∷ [])

-- the formula holds at the position
abbrev pub Holds : Trace → Formula → Claim
Holds t (Const b) i = IsTrue b
Holds t (Letter p) i = Contains (state_at t i) (name_of p)
Holds t (Unary op a) i = OfShape (IsPosition t) (shape op) (Holds t a) i
Holds t (Binary And a b) i = Holds t a i × Holds t b i
Holds t (Binary Or a b) i = Holds t a i ⊎ Holds t b i
Holds t (Binary Implies a b) i = Holds t a i → Holds t b i
Holds t (Binary Iff a b) i = Holds t a i ↔ Holds t b i
Holds t (Binary Until a b) i = IsUntil (IsPosition t) (Holds t a) (Holds t b) i
Holds t (Binary Release a b) i = IsReleased (IsPosition t) (Holds t a) (Holds t b) i
Holds t (Binary WeakUntil a b) i = IsReleased (IsPosition t) (Holds t b) (λ j. Holds t a j ⊎ Holds t b j) i
Holds t (Binary StrongRelease a b) i = IsUntil (IsPosition t) (Holds t b) (λ j. Holds t a j × Holds t b j) i
Holds t (Binary Since a b) i = IsSince (Holds t a) (Holds t b) i
Holds t (Binary Trigger a b) i = IsTriggered (Holds t a) (Holds t b) i

-- the trace satisfies the formula
abbrev pub Satisfies : Trace → Formula → Type 0
Satisfies t f = Holds t f 0
