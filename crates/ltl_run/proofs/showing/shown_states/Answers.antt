use Rattle.std.proofs.Common.{arith, length, ◌<◌, refl}
use Rattle.std.proofs.lemmas.Option.{slice_get_read}
use Rattle.ltl_run.proofs.Collecting.{states_more}
use Rattle.ltl_run.proofs.showing.shown_states.Goals as goal

pub loop-state-preserved : goal.loop-state-preserved
loop-state-preserved c =
    let lt : c.loop-state.state-index < length c.args.states.now = omega arith in
    rw c.in_ok-push.ensures.items
    (states_more c.args.names.now c.args.states.now c.loop-state.state-index c.loop-state.shown.items c.state-item.result _ c.loop-state.invariant
    (slice_get_read _ _ _ _ refl lt c.state-item.is) c.in_ok-shown_state.ensures)
