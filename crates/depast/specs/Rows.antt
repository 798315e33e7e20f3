-- The formula without past of `Y p` and of `O[1,2] p`, written out by hand.
use Rattle.std.specs.Prelude.{◌≡◌, ◌++◌, codes}
use Rattle.std.specs.Fmt.{decimal}
use Rattle.ltl_syntax.specs.declared.node.UnaryOp.TheVariants.{Always, Not, WeakNext, Yesterday, OnceIn}
use Rattle.ltl_syntax.specs.declared.node.BinaryOp.TheVariants.{And, Or}
use Rattle.ltl_syntax.specs.Formula.{Name, Formula, Letter, Unary, Binary}
use Rattle.depast.specs.Names.{new_name, new_letter}
use Rattle.depast.specs.Depast.{depast}

abbrev pub p : Formula
p = Letter (Name (codes "p"))

abbrev pub z₀ : Formula
z₀ = new_letter 0 0

abbrev pub z₁ : Formula
z₁ = new_letter 0 1

-- (z & (!z & G ((p & wX z) | (!p & wX !z)))) with one new name z
abbrev pub says_yesterday : Formula → Formula → Formula
says_yesterday a z =
    Binary And (Unary Not z) (Unary Always (Binary Or (Binary And a (Unary WeakNext z)) (Binary And (Unary Not a) (Unary WeakNext (Unary Not z)))))

pub record WorkedRemovals : Type 0 where
  -- one underscore more than the names of the formula
  pub name : new_name 1 12 ≡ codes "__p" ++ decimal 12
  pub yesterday : depast (Unary Yesterday p) ≡ Binary And z₀ (says_yesterday p z₀)
  -- the residue, and then the axioms in the order of the names
  pub once : depast (Unary (OnceIn 1 2) p) ≡ Binary And (Binary And (Binary Or z₀ z₁) (says_yesterday p z₀)) (says_yesterday z₀ z₁)
