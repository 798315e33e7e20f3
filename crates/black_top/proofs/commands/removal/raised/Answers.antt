use Rattle.ltl_syntax.specs.Table.{tree_at}
use Rattle.report.specs.declared.fault.Fault.TheVariants as faults
use Rattle.black_top.specs.Answer.{refused}
use Rattle.black_top.specs.Depast.{IsRaised, not_json, not_trace, empty_loop, empty_states, many_cells}
use Rattle.black_top.proofs.Written.{read_trace}
use Rattle.black_top.proofs.Showing.{shown}
use Rattle.black_top.proofs.OneLifted.{lifted_trace}
use Rattle.black_top.proofs.Depasted.{raised_shown}
use Rattle.black_top.proofs.commands.removal.raised.Goals as goal

pub returns-in-Err-NotJson : goal.returns-in-Err-NotJson
returns-in-Err-NotJson c =
    let read = rw c.in-Err-NotJson.field-0-is at c.in-Err-NotJson.ensures in
    shown (IsRaised (tree_at c.args.table.now c.args.root) c.args.text.now) (refused faults.NotJson) c.refusal.result (not_json read) c.refusal.ensures

pub returns-in-Err-NotTrace : goal.returns-in-Err-NotTrace
returns-in-Err-NotTrace c =
    let read = rw c.in-Err-NotTrace.field-0-is at c.in-Err-NotTrace.ensures in
    shown (IsRaised (tree_at c.args.table.now c.args.root) c.args.text.now) (refused faults.NotTrace) c.refusal-in-Err-NotTrace.result (not_trace read)
    c.refusal-in-Err-NotTrace.ensures

pub returns-in-Err-EmptyLoop : goal.returns-in-Err-EmptyLoop
returns-in-Err-EmptyLoop c =
    let read = rw c.in-Err-EmptyLoop.field-0-is at c.in-Err-EmptyLoop.ensures in
    shown (IsRaised (tree_at c.args.table.now c.args.root) c.args.text.now) (refused faults.EmptyLoop) c.refusal-in-Err-EmptyLoop.result (empty_loop read)
    c.refusal-in-Err-EmptyLoop.ensures

pub returns-in-Err-EmptyStates : goal.returns-in-Err-EmptyStates
returns-in-Err-EmptyStates c =
    let read = rw c.in-Err-EmptyStates.field-0-is at c.in-Err-EmptyStates.ensures in
    shown (IsRaised (tree_at c.args.table.now c.args.root) c.args.text.now) (refused faults.EmptyStates) c.refusal-in-Err-EmptyStates.result (empty_states read)
    c.refusal-in-Err-EmptyStates.ensures

pub lift-requires-clause-trace : goal.lift-requires-clause-trace
lift-requires-clause-trace c = read_trace c.args.text.now c.in-Ok.trace c.in-Ok.ensures

pub returns-in-Err-Cells : goal.returns-in-Err-Cells
returns-in-Err-Cells c =
    let many = c.lift.ensures.many c.in-Err-Cells.count (let a = c.in-Err-Cells.is in let b = c.in-Err-Cells.field-0-is in cc) in
    shown (IsRaised (tree_at c.args.table.now c.args.root) c.args.text.now) (refused (faults.Cells c.in-Err-Cells.count)) c.refusal-in-Err-Cells.result
    (many_cells c.in-Ok.trace c.in-Err-Cells.count c.in-Ok.ensures many) c.refusal-in-Err-Cells.ensures

pub with_trace-requires-clause-trace : goal.with_trace-requires-clause-trace
with_trace-requires-clause-trace c =
    lifted_trace (tree_at c.args.table.now c.args.root) c.in-Ok.trace c.in-Ok-lift.lifted (read_trace c.args.text.now c.in-Ok.trace c.in-Ok.ensures)
    c.in-Ok-lift.ensures.ok

pub returns-in-Ok-lift : goal.returns-in-Ok-lift
returns-in-Ok-lift c =
    let kept = c.args.removed.now in
    raised_shown (tree_at c.args.table.now c.args.root) (tree_at kept.table kept.root)
    c.args.text.now c.in-Ok.trace c.in-Ok-lift.lifted c.with_trace.result c.requires.removed.tree_is
    c.in-Ok.ensures c.in-Ok-lift.ensures.few c.in-Ok-lift.ensures.ok c.with_trace.ensures.shows c.with_trace.ensures.reads
