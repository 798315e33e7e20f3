use Rattle.std.proofs.Common.{Ok, sym, subst}
use Rattle.ltl_syntax.specs.Table.{tree_at}
use Rattle.past_monitor.specs.Text.{IsWatched}
use Rattle.report.specs.declared.fault.Fault.TheVariants as faults
use Rattle.black_top.specs.Answer.{refused, watched}
use Rattle.black_top.specs.Monitor.{IsMonitored, looks_ahead, no_state, answered}
use Rattle.black_top.proofs.Showing.{shown}
use Rattle.black_top.proofs.commands.monitor.watch.Goals as goal

pub returns-in-Ok : goal.returns-in-Ok
returns-in-Ok c =
    let f = tree_at c.args.table.now c.args.root in
    let text = c.args.text.now in
    let answers = c.deref.result.now in
    shown (IsMonitored f text) (watched answers) c.watched.result
    (answered answers (subst (λ a. IsWatched f text (Ok a)) (sym c.deref.ensures.value) c.in-Ok.ensures.answers)) c.watched.ensures

pub returns-in-Err-Future : goal.returns-in-Err-Future
returns-in-Err-Future c =
    let is = rw c.in-Err-Future.field-0-is at c.in-Err-Future.ensures.refused in
    shown (IsMonitored (tree_at c.args.table.now c.args.root) c.args.text.now) (refused faults.LooksAhead) c.refusal.result (looks_ahead is) c.refusal.ensures

pub returns-in-Err-State : goal.returns-in-Err-State
returns-in-Err-State c =
    let number = c.in-Err-State.number in
    let is = rw c.in-Err-State.field-0-is at c.in-Err-State.ensures.refused in
    shown (IsMonitored (tree_at c.args.table.now c.args.root) c.args.text.now) (refused (faults.State number)) c.refusal-in-Err-State.result
    (no_state number is) c.refusal-in-Err-State.ensures
