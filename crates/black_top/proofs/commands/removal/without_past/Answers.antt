use Rattle.std.specs.Option.{option_copied}
use Rattle.ltl_syntax.specs.Table.{tree_at}
use Rattle.report.specs.declared.fault.Fault.TheVariants as faults
use Rattle.black_top.specs.Answer.{refused}
use Rattle.black_top.specs.Depast.{IsWithout, IsShownBy, too_large, small}
use Rattle.black_top.proofs.Showing.{shown, shown_as}
use Rattle.black_top.proofs.commands.removal.without_past.Goals as goal

pub returns-in-Err-Nodes : goal.returns-in-Err-Nodes
returns-in-Err-Nodes c =
    let large = c.remove.ensures.nodes c.in-Err-Nodes.count (let a = c.in-Err-Nodes.is in let b = c.in-Err-Nodes.field-0-is in cc) in
    shown (IsWithout (tree_at c.args.table.now c.args.root) (option_copied c.args.second)) (refused (faults.PastNodes c.in-Err-Nodes.count)) c.refusal.result
    (too_large c.in-Err-Nodes.count large) c.refusal.ensures

pub returns-in-Ok : goal.returns-in-Ok
returns-in-Ok c =
    let f = tree_at c.args.table.now c.args.root in
    let second = option_copied c.args.second in
    shown_as (IsShownBy f second) (IsWithout f second) c.shown.result (λ a h. small a c.in-Ok.ensures.ok.small h) c.shown.ensures
