-- An entry of a closure as a formula that a person reads.
use Rattle.std.specs.Prelude.{ℕ, ◌-◌, Bool, false, not, if◌then◌else◌, slice_index_or}
use Rattle.ltl_syntax.specs.Formula.{Formula, Const, Letter, Unary, Binary}
use Rattle.ltl_syntax.specs.declared.node.UnaryOp.TheVariants.{Always, Eventually, Historically, Next, Not, Once, WeakNext, WeakYesterday, Yesterday}
use Rattle.ltl_syntax.specs.declared.node.BinaryOp.TheVariants.{And, Or, Release, Since, Trigger, Until}
use Rattle.ltl_closure.specs.Norm.{Norm, NConst, NLetter, NNotLetter, NAnd, NOr, NNext, NWeakNext, NYesterday, NWeakYesterday, NUntil, NRelease, NSince}
use Rattle.ltl_closure.specs.Norm.{NTrigger}
use Rattle.ltl_closure.specs.Closure.{closure}

-- the normal form is the constant true, or false
abbrev pub is_true : Norm → Bool
is_true (NConst b) = b
is_true _ = false

abbrev pub is_false : Norm → Bool
is_false (NConst b) = not b
is_false _ = false

-- a normal form as a formula: `true U a` is `F a`, `false R a` is `G a`, `true S a` is `O a`, and `false T a` is `H a`
abbrev pub readable : Norm → Formula
readable (NConst b) = Const b
readable (NLetter p) = Letter p
readable (NNotLetter p) = Unary Not (Letter p)
readable (NAnd a b) = Binary And (readable a) (readable b)
readable (NOr a b) = Binary Or (readable a) (readable b)
readable (NNext a) = Unary Next (readable a)
readable (NWeakNext a) = Unary WeakNext (readable a)
readable (NYesterday a) = Unary Yesterday (readable a)
readable (NWeakYesterday a) = Unary WeakYesterday (readable a)
readable (NUntil a b) = if is_true a then Unary Eventually (readable b) else Binary Until (readable a) (readable b)
readable (NRelease a b) = if is_false a then Unary Always (readable b) else Binary Release (readable a) (readable b)
readable (NSince a b) = if is_true a then Unary Once (readable b) else Binary Since (readable a) (readable b)
readable (NTrigger a b) = if is_false a then Unary Historically (readable b) else Binary Trigger (readable a) (readable b)

-- the entry of a number, as a formula
abbrev pub entry_formula : Formula → ℕ → Formula
entry_formula f t = readable (slice_index_or (closure f) (t - 1) (NConst false))
