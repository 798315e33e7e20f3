use Rattle.std.proofs.Common.{length}
use Rattle.cdcl_state.proofs.States.{state_new}
use Rattle.cdcl_state.proofs.state.State.new.Goals as goal

pub invariant_of-result : goal.invariant_of-result
invariant_of-result c = state_new c.new.result c.new-3.result c.new-4.result.items c.new-2.result (length c.new-5.result.stamps)
    c.new.ensures c.new-3.ensures c.new-4.ensures.items c.new-2.ensures
