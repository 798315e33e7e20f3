use Rattle.std.proofs.Common.{ℕ, Bool, not, ◌||◌, arith, ap, sym, ◌∙◌}
use Rattle.std.specs.Prelude.{nat_lt}
use Rattle.demand.specs.Values.{value_at}
use Rattle.demand.specs.Rows.{rows_in}
use Rattle.demand.specs.Closing.{is_done}
use Rattle.demand.specs.Pruning.{is_old}
use Rattle.demand.proofs.Last.{done_last}
use Rattle.demand.proofs.Reach.{bounded, unbounded, new_done, not_new}
use Rattle.demand.proofs.pruning.old_before.Goals as goal
use Rattle.demand.proofs.pruning.old_before.Goals.{then-is_asked, else-is_asked}

pub loop-eventuality-preserved : goal.loop-eventuality-preserved
loop-eventuality-preserved c =
    let rows = rows_in c.args.rows.now in
    let j = c.args.second in
    let i = c.args.state in
    let m = c.loop-eventuality.eventuality in
    let before = c.loop-eventuality.before in
    let so_far = c.loop-eventuality.invariant in
    elim c.if-is_asked.branch [
      | then-is_asked w ↦
          let d = w.last_fulfilled.result in
          let is = w.before-is ∙ w.min-before.ensures in record {
            within = omega (arith, so_far.within, is);
            old = λ n. ap (nat_lt n) is ∙ bounded n j before m (is_old rows n j i) (so_far.old n) d
                (new_done (value_at (rows i).pending m) (is_done rows j i m) (is_done rows n j m) (nat_lt n d) (sym c.is_asked.ensures ∙ w.if-is_asked.true)
                (done_last rows n j m ∙ ap (nat_lt n) (sym w.last_fulfilled.ensures.last)));
          }
      | else-is_asked w ↦ record {
        within = omega (arith, so_far.within, w.before-is);
        old = λ n. ap (nat_lt n) w.before-is ∙ unbounded n j before m (is_old rows n j i) (so_far.old n)
            (not_new (value_at (rows i).pending m) (is_done rows j i m) (is_done rows n j m) (sym c.is_asked.ensures ∙ w.if-is_asked.false));
      }
    ]
