use Rattle.std.proofs.Common.{refl}
use Rattle.std.proofs.lemmas.Result.{on_ok_weaker}
use Rattle.ltl_syntax.specs.declared.node.UnaryOp.TheVariants.{Not}
use Rattle.ltl_syntax.specs.Formula.{Unary}
use Rattle.depast.proofs.Rows.{reads_more}
use Rattle.depast.proofs.axiom_row.put_yesterday.Goals as goal

pub returns : goal.returns
returns c =
    on_ok_weaker c.put_stepping.result (λ steps l d f r s w h.
    steps l d (Unary Not (l.new c.args.name))
    f r s w (reads_more l c.args.axioms.now.items _ c.extend_from_slice.new.self.items r _ _ c.in_ok-extend_from_slice.ensures.items h (tt, refl)))
    c.put_stepping.ensures
