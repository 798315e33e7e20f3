use Rattle.std.proofs.Common.{◌≡◌, Err, subst}
use Rattle.ltl_syntax.specs.Table.{tree_at}
use Rattle.system_check.specs.declared.joining.JoinRefused.TheVariants as joins
use Rattle.system_check.specs.Joining.{IsJoining}
use Rattle.report.specs.declared.fault.Fault.TheVariants as faults
use Rattle.black_top.specs.Answer.{refused}
use Rattle.black_top.specs.System.{IsSettled, no_start, no_step}
use Rattle.black_top.proofs.Showing.{shown}
use Rattle.black_top.proofs.SystemSettling.{large_at}
use Rattle.black_top.proofs.commands.system.settle.Goals as goal

pub returns-in-Err-Nodes : goal.returns-in-Err-Nodes
returns-in-Err-Nodes c =
    let f = tree_at c.args.start.now.table c.args.start.now.root in
    let g = tree_at c.args.step.now.table c.args.step.now.root in
    let h = tree_at c.args.goal.now.table c.args.goal.now.root in
    let size = c.in-Err-Nodes.size in
    let told : c.join_parts.result ≡ Err (joins.Nodes size) = let a = c.in-Err-Nodes.is in let b = c.in-Err-Nodes.field-0-is in cc in
    let joining = subst (IsJoining f g h) told c.join_parts.ensures in
    let shows = rw c.in-Err-Nodes.field-0-is at c.refusal.ensures in
    shown (IsSettled c.args.options.depth c.args.options.cert f g h) (refused (faults.Nodes size)) c.refusal.result
    (large_at c.args.options.depth c.args.options.cert f g h size joining.0 joining.1) shows

pub returns-in-Err-Start : goal.returns-in-Err-Start
returns-in-Err-Start c =
    let f = tree_at c.args.start.now.table c.args.start.now.root in
    let g = tree_at c.args.step.now.table c.args.step.now.root in
    let h = tree_at c.args.goal.now.table c.args.goal.now.root in
    let told : c.join_parts.result ≡ Err joins.Start = let a = c.in-Err-Start.is in let b = c.in-Err-Start.field-0-is in cc in
    let joining = subst (IsJoining f g h) told c.join_parts.ensures in
    shown (IsSettled c.args.options.depth c.args.options.cert f g h) (refused faults.SystemStart) c.refusal-in-Err-Start.result (no_start joining.0 joining.1)
    c.refusal-in-Err-Start.ensures

pub returns-in-Err-Step : goal.returns-in-Err-Step
returns-in-Err-Step c =
    let f = tree_at c.args.start.now.table c.args.start.now.root in
    let g = tree_at c.args.step.now.table c.args.step.now.root in
    let h = tree_at c.args.goal.now.table c.args.goal.now.root in
    let told : c.join_parts.result ≡ Err joins.Step = let a = c.in-Err-Step.is in let b = c.in-Err-Step.field-0-is in cc in
    let joining = subst (IsJoining f g h) told c.join_parts.ensures in
    shown (IsSettled c.args.options.depth c.args.options.cert f g h) (refused faults.SystemStep) c.refusal-in-Err-Step.result
    (no_step joining.0 joining.1 joining.2) c.refusal-in-Err-Step.ensures
