use Rattle.cdcl_state.proofs.Distinct.{same_again}
use Rattle.cdcl_state.proofs.store.lead.Goals as goal

pub returns-clause-same : goal.returns-clause-same
returns-clause-same c = same_again c.args.clause.now.items c.bring.new.clause.items c.bring-2.new.clause.items c.bring.ensures.same c.bring-2.ensures.same
