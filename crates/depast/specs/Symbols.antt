-- What a row of symbols reads as: each operator takes the formulas of the symbols before it.
use Rattle.std.specs.Prelude.{◌≡◌, ℕ, ◌<◌, List, [], ◌∷◌}
use Rattle.ltl_syntax.specs.Formula.{Formula, Const, Letter, Fresh, Unary, Binary}
use Rattle.ltl_syntax.specs.Size.{IsInOrder}
use Rattle.depast.specs.declared.symbol.Symbol.{Symbol}
use Rattle.depast.specs.declared.symbol.Symbol.TheVariants as symbols

-- how many letters there are, and what stands for a letter and for a new name, by their numbers
pub record Letters : Type 0 where
  pub many : ℕ
  pub old : ℕ → Formula
  pub new : ℕ → Formula

-- with these formulas on a stack, the last of them first, the row reads as a stack
abbrev pub Reads : Letters → List Symbol → List Formula → List Formula → Type 0
Reads l [] s r = s ≡ r
Reads l (symbols.Const b ∷ xs) s r = Reads l xs (Const b ∷ s) r
Reads l (symbols.Old n ∷ xs) s r = (n < l.many) × Reads l xs (l.old n ∷ s) r
Reads l (symbols.Fresh n ∷ xs) s r = Reads l xs (Letter (Fresh n) ∷ s) r
Reads l (symbols.New n ∷ xs) s r = Reads l xs (l.new n ∷ s) r
Reads l (symbols.Unary op ∷ xs) [] r = ⊥
Reads l (symbols.Unary op ∷ xs) (a ∷ s) r = IsInOrder op × Reads l xs (Unary op a ∷ s) r
Reads l (symbols.Binary op ∷ xs) [] r = ⊥
Reads l (symbols.Binary op ∷ xs) (b ∷ []) r = ⊥
Reads l (symbols.Binary op ∷ xs) (b ∷ a ∷ s) r = Reads l xs (Binary op a b ∷ s) r

-- the row is that of one formula
abbrev pub Writes : Letters → List Symbol → Formula → Type 0
Writes l xs f = (s : List Formula) → Reads l xs s (f ∷ s)
