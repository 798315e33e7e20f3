use Rattle.std.proofs.Common.{ℕ, ◌++◌, List, sym, subst}
use Rattle.std.proofs.lemmas.Result.{on_ok_weaker}
use Rattle.ltl_syntax.specs.declared.node.Node.{Node}
use Rattle.ltl_syntax.specs.Formula.{Formula}
use Rattle.ltl_syntax.specs.Table.{Table}
use Rattle.ltl_syntax.specs.Under.{IsUnder}
use Rattle.depast.specs.Postorder.{IsNode}
use Rattle.depast.specs.Sources.{AreSources, own_meanings}
use Rattle.depast.proofs.Sourced.{under_one}
use Rattle.depast.proofs.sources.put_sources.Goals as goal

pub returns-in-Unary : goal.returns-in-Unary
returns-in-Unary c = on_ok_weaker c.put_unary_sources.result (λ h.
    subst (λ (node : Node). (t : Table) (root : ℕ) (gs : List Formula) → IsNode t c.args.number node → IsUnder t root c.args.number
    → AreSources t root c.args.sources.now.items gs
    → AreSources t root c.put_unary_sources.new.sources.items (gs ++ own_meanings t node)) (sym c.in-Unary.is)
    (λ t root gs is under are. h t root gs is.tree under (under_one t root c.args.number c.in-Unary.op c.in-Unary.a under is) are)) c.put_unary_sources.ensures
