use Rattle.depast.specs.Depast.{weak_yesterday_axiom}
use Rattle.depast.proofs.AxiomRows.{chain_reads}
use Rattle.depast.proofs.axiom_row.put_weak_yesterdays.Goals as goal

pub loop-step-preserved : goal.loop-step-preserved
loop-step-preserved c l d f r s w h =
    chain_reads l weak_yesterday_axiom c.args.first c.loop-step.step d f r s c.put_weak_yesterday_at.new.axioms.items
    (c.in_ok-put_weak_yesterday_at.ensures l d _ r s w (c.loop-step.invariant l d f r s w h))
