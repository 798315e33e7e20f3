use Rattle.std.proofs.Common.{ap, sym, ◌∙◌}
use Rattle.std.specs.Prelude.{nat_lt}
use Rattle.demand.specs.Values.{value_at}
use Rattle.demand.specs.Rows.{rows_in}
use Rattle.demand.specs.Closing.{is_done}
use Rattle.demand.proofs.Last.{done_last}
use Rattle.demand.proofs.Reach.{asked_since}
use Rattle.demand.proofs.pruning.is_asked.Goals as goal

pub returns-then-is_pending : goal.returns-then-is_pending
returns-then-is_pending c =
    let rows = rows_in c.args.rows.now in
    let j = c.args.second in
    let i = c.args.state in
    let m = c.args.eventuality in
    asked_since (value_at (rows i).pending m) (is_done rows j i m) (nat_lt j c.last_fulfilled.result) (sym c.is_pending.ensures ∙ c.if-is_pending.true)
    (done_last rows j i m ∙ ap (nat_lt j) (sym c.last_fulfilled.ensures.last))
