use Rattle.std.proofs.Common.{All, sym, subst}
use Rattle.cnf_base.specs.Known.{IsKnown}
use Rattle.cdcl_state.specs.StateValue.{StateValue}
use Rattle.cdcl_propagate.specs.Visit.{HaveSame}
use Rattle.cdcl_state.proofs.Attach.{stored_below}
use Rattle.cdcl_state.proofs.Distinct.{same_itself, same_again}
use Rattle.cdcl_state.proofs.state.State.add.Goals as goal

pub add_stored-requires-clause-same : goal.add_stored-requires-clause-same
add_stored-requires-clause-same c = same_itself c.args.clause.now

pub lead-requires-clause-known : goal.lead-requires-clause-known
lead-requires-clause-known c =
    let known : All (IsKnown c.self.inside.letters) c.args.clause.now =
    subst (λ (v : StateValue). All (IsKnown v.letters) c.args.clause.now) (sym c.self.view_is) c.requires in
    stored_below c.self.inside.letters c.self.inside.assigned c.args.clause.now c.distinct.new.out.items c.self.invariant.room known
    c.in_ok-distinct.ensures.same

pub add_stored-requires-2-clause-same : goal.add_stored-requires-2-clause-same
add_stored-requires-2-clause-same c =
    subst (HaveSame c.args.clause.now) (sym c.deref.ensures.value)
    (same_again c.args.clause.now c.distinct.new.out.items c.lead.new.clause.items c.in_ok-distinct.ensures.same c.lead.ensures.same)
