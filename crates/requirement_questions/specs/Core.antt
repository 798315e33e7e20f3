-- What of some formulas that no trace satisfies matters for that.
use Rattle.std.specs.Prelude.{◌≡◌, ◌<◌, List, map, length, All}
use Rattle.ltl_syntax.specs.declared.node.Kind.{Kind}
use Rattle.ltl_syntax.specs.Formula.{Formula}
use Rattle.ltl_syntax.specs.Table.{tree_at}
use Rattle.ltl_syntax.specs.Replacement.{Places, AreApart, rep}
use Rattle.requirement_questions.specs.declared.parting.Core.{Core}
use Rattle.requirement_questions.specs.Formulas.{all_of, NoneSatisfies}

-- its parts as trees
abbrev pub parts_of : Core → List Formula
parts_of c = map (tree_at c.table) c.parts.items

-- the parts are the formulas in their order, with some occurrences replaced, each by a fresh letter of its own. Whatever the fresh letters stand for, no trace
-- of the kind satisfies all of the parts
pub record IsCoreOf (kind : Kind) (formulas : List Formula) (c : Core) : Type 0 where
  pub there : All (λ n. n < length c.table.nodes) c.parts.items
  pub many : length c.parts.items ≡ length formulas
  pub places : Places
  pub apart : AreApart (all_of formulas) places
  pub replaced : all_of (parts_of c) ≡ rep (all_of formulas) places
  pub none : NoneSatisfies kind (parts_of c)
