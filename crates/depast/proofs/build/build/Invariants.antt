use Rattle.std.proofs.Common.{◌≤◌, List, [], ◌∷◌, length, drop}
use Rattle.ltl_syntax.specs.Formula.{Formula}
use Rattle.depast.specs.Building.{letters_by, AreBuilt}
use Rattle.depast.specs.Symbols.{Reads}
use Rattle.depast.proofs.build.build.Given as goal

abbrev pub invariant-loop-symbol : goal.invariant-loop-symbol
invariant-loop-symbol l =
    (length l.table.names ≤ length l.table.nodes)
    × ((f : Formula) → Reads (letters_by l.source l.names.most) l.row [] (f ∷ []) → (fs : List Formula) × AreBuilt l.table fs l.roots
    × Reads (letters_by l.source l.names.most) (drop l.symbol-index l.row) fs (f ∷ []))
