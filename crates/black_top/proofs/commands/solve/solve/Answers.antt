use Rattle.ltl_syntax.specs.Table.{tree_at}
use Rattle.black_top.specs.Answer.{refused}
use Rattle.black_top.specs.Solve.{IsSolved, unreadable, settled, IsSettled}
use Rattle.black_top.proofs.Showing.{shown, shown_as}
use Rattle.black_top.proofs.commands.solve.solve.Goals as goal

pub returns-in-Refused : goal.returns-in-Refused
returns-in-Refused g c =
    let refuses = rw c.in-Refused.is at c.in_ok-fault.ensures in
    shown (IsSolved c.args.options.kind c.args.options.depth c.args.options.core c.args.options.cert c.args.text.now) (refused c.in-Refused.fault)
    c.refusal.result (unreadable c.in-Refused.fault refuses) c.refusal.ensures

pub returns-in-Formula : goal.returns-in-Formula
returns-in-Formula g c =
    let f = tree_at c.in-Formula.table c.in-Formula.root in
    let reading = rw c.in-Formula.is at c.in_ok-fault.ensures in
    shown_as (IsSettled c.args.options.kind c.args.options.depth c.args.options.core c.args.options.cert f)
    (IsSolved c.args.options.kind c.args.options.depth c.args.options.core c.args.options.cert c.args.text.now) c.settle.result
    (λ a h. settled f a reading.1 h) c.settle.ensures

pub settle-requires-clause-given : goal.settle-requires-clause-given
settle-requires-clause-given g c κs lives =
    let reading = rw c.in-Formula.is at c.in_ok-fault.ensures in
    c.no_fresh.ensures c.args.text.now (tree_at c.in-Formula.table c.in-Formula.root) reading.1.reads
