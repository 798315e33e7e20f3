-- The trees of a small table and the text of its last one, written out by hand.
use Rattle.std.specs.Prelude.{◌≡◌, true, [], ◌∷◌, codes}
use Rattle.ltl_syntax.specs.declared.node.UnaryOp.TheVariants.{Not, WeakNext}
use Rattle.ltl_syntax.specs.declared.node.BinaryOp.TheVariants.{Until, Iff}
use Rattle.ltl_syntax.specs.declared.node.Node.TheVariants as nodes
use Rattle.ltl_syntax.specs.Formula.{Name, Letter, Unary, Binary}
use Rattle.ltl_syntax.specs.Table.{Table, tree_at}
use Rattle.ltl_syntax.specs.Print.{text_of}

abbrev pub small : Table
small = record {
  nodes = nodes.Letter 1 ∷ nodes.Unary Not 0 ∷ nodes.Letter 0 ∷ nodes.Binary Until 1 2 ∷ nodes.Const true ∷ nodes.Unary WeakNext 4 ∷ nodes.Binary Iff 3 5 ∷ [];
  names = codes "p" ∷ codes "q" ∷ [];
}

pub record WorkedTable : Type 0 where
  -- children are found by their numbers, and letters by the places of their names
  pub tree : tree_at small 3 ≡ Binary Until (Unary Not (Letter (Name (codes "q")))) (Letter (Name (codes "p")))
  -- each binary operator has parentheses of its own
  pub text : text_of (tree_at small 6) ≡ codes "((!q U p) <-> wX true)"
