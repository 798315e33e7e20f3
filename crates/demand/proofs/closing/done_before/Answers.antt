use Rattle.std.proofs.Common.{ℕ, ◌-◌, Bool, not, ◌||◌, arith, ap, sym, ◌∙◌}
use Rattle.std.specs.Prelude.{nat_lt, length}
use Rattle.demand.specs.Values.{value_at}
use Rattle.demand.specs.Rows.{rows_in}
use Rattle.demand.specs.Closing.{is_done, is_met}
use Rattle.demand.proofs.Last.{done_last}
use Rattle.demand.proofs.Reach.{bounded, unbounded, asked_done, unasked}
use Rattle.demand.proofs.closing.done_before.Goals as goal
use Rattle.demand.proofs.closing.done_before.Goals.{then-is_pending, else-is_pending}

pub loop-eventuality-preserved : goal.loop-eventuality-preserved
loop-eventuality-preserved c =
    let rows = rows_in c.args.rows.now in
    let k = length c.args.rows.now - 1 in
    let m = c.loop-eventuality.eventuality in
    let before = c.loop-eventuality.before in
    let so_far = c.loop-eventuality.invariant in
    elim c.if-is_pending.branch [
      | then-is_pending w ↦
          let d = w.last_fulfilled.result in
          let is = w.before-is ∙ w.min-before.ensures in record {
            within = omega (arith, so_far.within, is);
            done = λ n. ap (nat_lt n) is ∙ bounded n k before m (is_met rows n k) (so_far.done n) d
                (asked_done (value_at (rows k).pending m) (is_done rows n k m) (nat_lt n d) (sym c.is_pending.ensures ∙ w.if-is_pending.true)
                (done_last rows n k m ∙ ap (nat_lt n) (sym w.last_fulfilled.ensures.last)));
          }
      | else-is_pending w ↦ record {
        within = omega (arith, so_far.within, w.before-is);
        done = λ n. ap (nat_lt n) w.before-is ∙ unbounded n k before m (is_met rows n k) (so_far.done n)
            (unasked (value_at (rows k).pending m) (is_done rows n k m) (sym c.is_pending.ensures ∙ w.if-is_pending.false));
      }
    ]
