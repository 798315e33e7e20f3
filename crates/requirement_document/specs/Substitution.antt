-- Definitions, and the formula in which they are put in, as trees, in place of the letters that they define.
use Rattle.std.specs.Prelude.{ℕ, List, [], ◌∷◌, map, Option, Some, None, bytes_eq, if◌then◌else◌}
use Rattle.ltl_syntax.specs.Formula.{Name, Fresh, Formula, Const, Letter, Unary, Binary}

-- names with the formulas that they stand for
abbrev pub Definitions : Type 0
Definitions = List (List ℕ × Formula)

abbrev pub names_defined : Definitions → List (List ℕ)
names_defined ds = map (λ d. d.0) ds

-- what the name is defined as, if it is
abbrev pub found : Definitions → List ℕ → Option Formula
found [] name = None
found (d ∷ ds) name = if bytes_eq name d.0 then Some d.1 else found ds name

abbrev pub or_letter : List ℕ → Option Formula → Formula
or_letter name None = Letter (Name name)
or_letter name (Some f) = f

-- a letter that is not defined stays. What is put in is not looked at again
abbrev pub substituted : Definitions → Formula → Formula
substituted ds (Const b) = Const b
substituted ds (Letter (Name name)) = or_letter name (found ds name)
substituted ds (Letter (Fresh n)) = Letter (Fresh n)
substituted ds (Unary op a) = Unary op (substituted ds a)
substituted ds (Binary op a b) = Binary op (substituted ds a) (substituted ds b)
