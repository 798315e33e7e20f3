use Rattle.std.proofs.Common.{◌-◌, arith, ap, sym, ◌∙◌}
use Rattle.std.specs.Prelude.{length}
use Rattle.ltl_run.specs.declared.run_state.Close.TheVariants as closes
use Rattle.demand.specs.Rows.{rows_in}
use Rattle.demand.specs.Closing.{is_one_carry, all_met}
use Rattle.demand.proofs.Reach.{mapped, nearest_before}
use Rattle.demand.proofs.closing.loop_of.Goals as goal

pub returns-in_err-state : goal.returns-in_err-state
returns-in_err-state c =
    let rows = rows_in c.args.rows.now in
    let k = length c.args.rows.now - 1 in
    let b = c.done_before.ensures.before in
    c.from_residual.ensures
    ∙ (ap (mapped closes.Loop) (sym c.in_err-state.was ∙ c.nearest_equal.ensures)
    ∙ sym (nearest_before k c.done_before.result (λ l. is_one_carry rows l k) (λ l. all_met rows l k) closes.Loop (omega arith) c.done_before.ensures.done))

pub returns : goal.returns
returns c =
    let rows = rows_in c.args.rows.now in
    let k = length c.args.rows.now - 1 in
    let b = c.done_before.ensures.before in
    ap (mapped closes.Loop) (sym c.in_ok-state.was ∙ c.nearest_equal.ensures)
    ∙ sym (nearest_before k c.done_before.result (λ l. is_one_carry rows l k) (λ l. all_met rows l k) closes.Loop (omega arith) c.done_before.ensures.done)
