use Rattle.std.proofs.Common.{◌++◌, ◌∷◌, [], ◌∙◌, ap, sym}
use Rattle.ltl_syntax.proofs.Cutting.{take_next}
use Rattle.ltl_syntax.proofs.replacing.nodes_of.Goals as goal

pub numbers-preserved : goal.numbers-preserved
numbers-preserved c =
    c.in_ok-push.ensures.items ∙ (ap (λ ns. ns ++ c.node.result ∷ []) c.numbers.invariant
    ∙ sym (take_next c.args.table.now.nodes c.numbers.number c.node.result c.node.ensures.node))
