use Rattle.std.proofs.lemmas.Result.{on_ok_weaker}
use Rattle.depast.proofs.AxiomRows.{before_writes}
use Rattle.depast.proofs.axiom_row.put_yesterday_at.Goals as goal

pub returns : goal.returns
returns c = on_ok_weaker c.put_yesterday-2.result (λ puts l d f r s w h. puts l _ f r s (before_writes l c.args.first c.args.step d c.if-step-eq0.false) h)
    c.put_yesterday-2.ensures
