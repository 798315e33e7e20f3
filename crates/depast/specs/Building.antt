-- The roots that wait for their operator while a table is built.
use Rattle.std.specs.Prelude.{◌≡◌, ℕ, ◌<◌, List, [], ◌∷◌, length, slice_index_or, ⊤}
use Rattle.ltl_syntax.specs.Formula.{Name, Formula, Letter}
use Rattle.ltl_syntax.specs.Size.{IsInOrder}
use Rattle.ltl_syntax.specs.Table.{Table, IsRoot, tree_at}
use Rattle.depast.specs.declared.symbol.Symbol.{Symbol}
use Rattle.depast.specs.declared.symbol.Symbol.TheVariants as symbols
use Rattle.depast.specs.Names.{new_letter}
use Rattle.depast.specs.Symbols.{Letters}

-- letters are names of the table, and new names begin with one underscore more than this number
abbrev pub letters_by : Table → ℕ → Letters
letters_by t most = record { many = length t.names; old = λ n. Letter (Name (slice_index_or t.names n [])); new = new_letter most }

-- each number is below this one
abbrev pub AllBelow : ℕ → List ℕ → Type 0
AllBelow n [] = ⊤
AllBelow n (x ∷ xs) = (x < n) × AllBelow n xs

-- the roots stand for the formulas, the last of them first, and each has a greater number than those below it
abbrev pub AreBuilt : Table → List Formula → List ℕ → Type 0
AreBuilt t [] roots = roots ≡ []
AreBuilt t (f ∷ fs) roots =
    (number : ℕ) × (rest : List ℕ) × (roots ≡ number ∷ rest) × IsRoot t number × (tree_at t number ≡ f) × AllBelow number rest × AreBuilt t fs rest

-- the roots that the symbol takes are there
abbrev pub MayPut : Table → Symbol → Table → List ℕ → Type 0
MayPut source (symbols.Const b) t roots = ⊤
MayPut source (symbols.Old n) t roots = n < length source.names
MayPut source (symbols.Fresh n) t roots = ⊤
MayPut source (symbols.New n) t roots = ⊤
MayPut source (symbols.Unary op) t [] = ⊥
MayPut source (symbols.Unary op) t (a ∷ rest) = IsInOrder op × IsRoot t a
MayPut source (symbols.Binary op) t [] = ⊥
MayPut source (symbols.Binary op) t (b ∷ []) = ⊥
MayPut source (symbols.Binary op) t (b ∷ a ∷ rest) = IsRoot t a × IsRoot t b × (a < b)
