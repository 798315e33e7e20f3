use Rattle.ltl_syntax.specs.Table.{tree_at}
use Rattle.ltl_word.specs.Holds.{Satisfies}
use Rattle.report.specs.declared.fault.Fault.TheVariants as faults
use Rattle.black_top.specs.Answer.{refused, holds, fails}
use Rattle.black_top.specs.Trace.{IsJudged, not_json, not_trace, empty_loop, empty_states, many_cells, satisfied, violated}
use Rattle.black_top.proofs.Written.{read_trace}
use Rattle.black_top.proofs.Showing.{shown}
use Rattle.black_top.proofs.commands.trace.judge.Goals as goal

pub returns-in-Err-NotJson : goal.returns-in-Err-NotJson
returns-in-Err-NotJson c =
    let read = rw c.in-Err-NotJson.field-0-is at c.in-Err-NotJson.ensures in
    shown (IsJudged (tree_at c.args.table.now c.args.root) c.args.text.now) (refused faults.NotJson) c.refusal.result (not_json read) c.refusal.ensures

pub returns-in-Err-NotTrace : goal.returns-in-Err-NotTrace
returns-in-Err-NotTrace c =
    let read = rw c.in-Err-NotTrace.field-0-is at c.in-Err-NotTrace.ensures in
    shown (IsJudged (tree_at c.args.table.now c.args.root) c.args.text.now) (refused faults.NotTrace) c.refusal-in-Err-NotTrace.result (not_trace read)
    c.refusal-in-Err-NotTrace.ensures

pub returns-in-Err-EmptyLoop : goal.returns-in-Err-EmptyLoop
returns-in-Err-EmptyLoop c =
    let read = rw c.in-Err-EmptyLoop.field-0-is at c.in-Err-EmptyLoop.ensures in
    shown (IsJudged (tree_at c.args.table.now c.args.root) c.args.text.now) (refused faults.EmptyLoop) c.refusal-in-Err-EmptyLoop.result (empty_loop read)
    c.refusal-in-Err-EmptyLoop.ensures

pub returns-in-Err-EmptyStates : goal.returns-in-Err-EmptyStates
returns-in-Err-EmptyStates c =
    let read = rw c.in-Err-EmptyStates.field-0-is at c.in-Err-EmptyStates.ensures in
    shown (IsJudged (tree_at c.args.table.now c.args.root) c.args.text.now) (refused faults.EmptyStates) c.refusal-in-Err-EmptyStates.result (empty_states read)
    c.refusal-in-Err-EmptyStates.ensures

pub holds-requires-clause-trace : goal.holds-requires-clause-trace
holds-requires-clause-trace c = read_trace c.args.text.now c.in-Ok.trace c.in-Ok.ensures

pub returns-in-Ok-true : goal.returns-in-Ok-true
returns-in-Ok-true c =
    let is = c.in-Ok-true.ensures.ok.0 (let a = c.in-Ok-true.field-0-is in let b = c.in-Ok-true.field-0-test in cc) in
    shown (IsJudged (tree_at c.args.table.now c.args.root) c.args.text.now) holds c.holds-in-Ok-true.result
    (satisfied c.in-Ok.trace c.in-Ok.ensures c.in-Ok-true.ensures.few is) c.holds-in-Ok-true.ensures

pub returns-in-Ok-false : goal.returns-in-Ok-false
returns-in-Ok-false c =
    let no : ¬ (Satisfies c.in-Ok.trace (tree_at c.args.table.now c.args.root)) = λ is. let yes = c.in-Ok-false.ensures.ok.1 is in
    let a = c.in-Ok-false.field-0-is in let b = c.in-Ok-false.field-0-test in cc in
    shown (IsJudged (tree_at c.args.table.now c.args.root) c.args.text.now) fails c.fails.result
    (violated c.in-Ok.trace c.in-Ok.ensures c.in-Ok-false.ensures.few no) c.fails.ensures

pub returns-in-Err-Cells : goal.returns-in-Err-Cells
returns-in-Err-Cells c =
    let many = c.holds.ensures.many c.in-Err-Cells.count (let a = c.in-Err-Cells.is in let b = c.in-Err-Cells.field-0-is in cc) in
    shown (IsJudged (tree_at c.args.table.now c.args.root) c.args.text.now) (refused (faults.Cells c.in-Err-Cells.count)) c.refusal-in-Err-Cells.result
    (many_cells c.in-Ok.trace c.in-Err-Cells.count c.in-Ok.ensures many) c.refusal-in-Err-Cells.ensures
