-- The form of a system's step, and what such a formula says of two states.
use Rattle.std.specs.Prelude.{ℕ, List, ⊤, ◌⊎◌, ◌↔◌, IsTrue, Contains}
use Rattle.ltl_syntax.specs.Formula.{Formula, Const, Letter, Unary, Binary}
use Rattle.ltl_syntax.specs.declared.node.UnaryOp.TheVariants.{Next, Not}
use Rattle.ltl_syntax.specs.declared.node.BinaryOp.TheVariants.{And, Iff, Implies, Or}
use Rattle.ltl_word.specs.Trace.{Names}
use Rattle.ltl_word.specs.Holds.{name_of}
use Rattle.ltl_word.specs.Propositional.{IsLocal₂, IsPropositional}
use Rattle.system_check.specs.declared.forms.Forms.{Forms}

-- no operator of the formula is temporal but X, and none stands under an X
abbrev pub IsStepForm : Formula → Type 0
IsStepForm (Const b) = ⊤
IsStepForm (Letter p) = ⊤
IsStepForm (Unary Not a) = IsStepForm a
IsStepForm (Unary Next a) = IsPropositional a
IsStepForm (Unary op a) = ⊥
IsStepForm (Binary op a b) = IsLocal₂ op × IsStepForm a × IsStepForm b

-- what a formula of this form says of a state s and the next state u: a letter is read in s, and what stands under an X in u
abbrev pub Two : Names → Names → Formula → Type 0
Two s u (Const b) = IsTrue b
Two s u (Letter p) = Contains s (name_of p)
Two s u (Unary Not a) = Two s u a → ⊥
Two s u (Unary Next a) = Two u u a
Two s u (Unary op a) = ⊥
Two s u (Binary And a b) = Two s u a × Two s u b
Two s u (Binary Or a b) = Two s u a ⊎ Two s u b
Two s u (Binary Implies a b) = Two s u a → Two s u b
Two s u (Binary Iff a b) = Two s u a ↔ Two s u b
Two s u (Binary op a b) = ⊥

-- two states are the same set
abbrev pub AreSameSet : Names → Names → Type 0
AreSameSet s u = (name : List ℕ) → Contains s name ↔ Contains u name

-- the flags tell the forms that the formula has
pub record HasForms (f : Formula) (forms : Forms) : Type 0 where
  pub start : IsTrue forms.start ↔ IsPropositional f
  pub step : IsTrue forms.step ↔ IsStepForm f
