-- The negation normal form.
use Rattle.std.specs.Prelude.{ℕ, zero, suc, Bool, true, false, not}
use Rattle.ltl_syntax.specs.Formula.{Atom, Formula, Const, Letter, Unary, Binary}
use Rattle.ltl_syntax.specs.Shape.{Direction, Future, Past, Range, Step, Ever, Exactly, Between, Shape, Negation, Somewhere, Everywhere, shape}
use Rattle.ltl_syntax.specs.declared.node.UnaryOp.TheVariants.{Next, Not, WeakNext, WeakYesterday, Yesterday}
use Rattle.ltl_syntax.specs.declared.node.BinaryOp.TheVariants.{And, Iff, Implies, Or, Release, Since, StrongRelease, Trigger, Until, WeakUntil}

-- formulas in normal form
pub data Norm : Type 0 where
  NConst : Bool → Norm
  NLetter NNotLetter : Atom → Norm
  NAnd NOr : Norm → Norm → Norm
  NNext NWeakNext NYesterday NWeakYesterday : Norm → Norm
  NUntil NRelease NSince NTrigger : Norm → Norm → Norm
  deriving Discrete as Norm-discrete

-- a normal form is a formula
abbrev pub formula_of : Norm → Formula
formula_of (NConst b) = Const b
formula_of (NLetter p) = Letter p
formula_of (NNotLetter p) = Unary Not (Letter p)
formula_of (NAnd a b) = Binary And (formula_of a) (formula_of b)
formula_of (NOr a b) = Binary Or (formula_of a) (formula_of b)
formula_of (NNext a) = Unary Next (formula_of a)
formula_of (NWeakNext a) = Unary WeakNext (formula_of a)
formula_of (NYesterday a) = Unary Yesterday (formula_of a)
formula_of (NWeakYesterday a) = Unary WeakYesterday (formula_of a)
formula_of (NUntil a b) = Binary Until (formula_of a) (formula_of b)
formula_of (NRelease a b) = Binary Release (formula_of a) (formula_of b)
formula_of (NSince a b) = Binary Since (formula_of a) (formula_of b)
formula_of (NTrigger a b) = Binary Trigger (formula_of a) (formula_of b)

-- N n times over
abbrev pub times : (Norm → Norm) → ℕ → Norm → Norm
times N zero c = c
times N (suc n) c = N (times N n c)

-- c at the places that are a to b steps N away, joined by J: a times N, over c, joined with N of c, joined with N of c and so on.
-- It is z where there is no such place, since a is above b
abbrev pub window : (Norm → Norm → Norm) → Norm → (Norm → Norm) → ℕ → ℕ → Norm → Norm
window J z N zero zero c = c
window J z N zero (suc b) c = J c (N (window J z N zero b c))
window J z N (suc a) (suc b) c = N (window J z N a b c)
window J z N (suc a) zero c = z

-- c joined m times over with N of the rest
abbrev pub chain : (Norm → Norm → Norm) → (Norm → Norm) → ℕ → Norm → Norm
chain J N zero c = c
chain J N (suc m) c = J c (N (chain J N m c))

-- ---- an operator with `true`, and its dual with `false`

abbrev pub constant : Bool → Bool → Norm
constant true b = NConst b
constant false b = NConst (not b)

abbrev pub letter : Bool → Atom → Norm
letter true p = NLetter p
letter false p = NNotLetter p

abbrev pub conjunction : Bool → Norm → Norm → Norm
conjunction true = NAnd
conjunction false = NOr

abbrev pub disjunction : Bool → Norm → Norm → Norm
disjunction s = conjunction (not s)

-- the request for the position one step away on this side
abbrev pub request : Bool → Direction → Norm → Norm
request true Future = NNext
request false Future = NWeakNext
request true Past = NYesterday
request false Past = NWeakYesterday

abbrev pub until : Bool → Direction → Norm → Norm → Norm
until true Future = NUntil
until false Future = NRelease
until true Past = NSince
until false Past = NTrigger

-- somewhere at the places that are a to b steps away, and with `false` everywhere
abbrev pub in_range : Bool → (Norm → Norm) → ℕ → ℕ → Norm → Norm
in_range some N a b c = window (disjunction some) (NConst (not some)) N a b c

-- somewhere in the range, and with `false` everywhere
abbrev pub looking : Bool → Direction → Range → Norm → Norm
looking some side Step c = request some side c
looking some side Ever c = until some side (NConst some) c
looking some side (Exactly n) c = times (request some side) n c
looking some side (Between a b) c = in_range some (request some side) a b c

-- the sign of an operator's operand, and the operator over the operand's normal form
abbrev pub under : Bool → Shape → Bool
under s Negation = not s
under s (Somewhere side range) = s
under s (Everywhere side range) = s

abbrev pub over : Bool → Shape → Norm → Norm
over s Negation c = c
over s (Somewhere side range) c = looking s side range c
over s (Everywhere side range) c = looking (not s) side range c

-- the normal form of a formula, and with `false` that of its negation
abbrev pub norm : Bool → Formula → Norm
norm s (Const b) = constant s b
norm s (Letter p) = letter s p
norm s (Unary op a) = over s (shape op) (norm (under s (shape op)) a)
norm s (Binary And a b) = conjunction s (norm s a) (norm s b)
norm s (Binary Or a b) = disjunction s (norm s a) (norm s b)
norm s (Binary Implies a b) = disjunction s (norm (not s) a) (norm s b)
norm s (Binary Iff a b) = NOr (NAnd (norm true a) (norm s b)) (NAnd (norm false a) (norm (not s) b))
norm s (Binary Until a b) = until s Future (norm s a) (norm s b)
norm s (Binary Release a b) = until (not s) Future (norm s a) (norm s b)
norm s (Binary WeakUntil a b) = until (not s) Future (norm s b) (disjunction s (norm s a) (norm s b))
norm s (Binary StrongRelease a b) = until s Future (norm s b) (conjunction s (norm s a) (norm s b))
norm s (Binary Since a b) = until s Past (norm s a) (norm s b)
norm s (Binary Trigger a b) = until (not s) Past (norm s a) (norm s b)

abbrev pub pos_of : Formula → Norm
pos_of f = norm true f
