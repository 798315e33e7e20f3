use Rattle.ltl_syntax.specs.Table.{tree_at}
use Rattle.refute_top.specs.Answer.{refused}
use Rattle.refute_top.specs.Refuting.{IsFound, IsSettled, unreadable, settled}
use Rattle.refute_top.proofs.Showing.{shown, shown_as}
use Rattle.refute_top.proofs.refute.refute.Goals as goal

pub returns-in-Refused-clause-settled : goal.returns-in-Refused-clause-settled
returns-in-Refused-clause-settled g c =
    let refuses = rw c.in-Refused.is at c.in_ok-fault.ensures in
    shown (IsSettled c.args.options.kind c.args.options.cert c.args.text.now) (refused c.in-Refused.fault) c.refusal.result
    (unreadable c.in-Refused.fault refuses) c.refusal.ensures

pub returns-in-Formula-clause-settled : goal.returns-in-Formula-clause-settled
returns-in-Formula-clause-settled g c =
    let f = tree_at c.in-Formula.table c.in-Formula.root in
    let reading = rw c.in-Formula.is at c.in_ok-fault.ensures in
    shown_as (IsFound c.args.options.kind c.args.options.cert f) (IsSettled c.args.options.kind c.args.options.cert c.args.text.now) c.settle.result
    (λ a h. settled f a reading.1 h) c.settle.ensures.found
