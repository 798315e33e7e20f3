use Rattle.system_check.proofs.Connecting.{three_copies}
use Rattle.system_check.proofs.joining.assemble.Goals as goal

pub connect-requires-clause-copies : goal.connect-requires-clause-copies
connect-requires-clause-copies c =
    three_copies c.args.start.now.table.now c.args.step.now.table.now c.args.goal.now.table.now c.new-table.result c.copy.new.target c.copy-2.new.target
    c.copy-3.new.target
    c.args.start.now.root c.args.step.now.root c.args.goal.now.root
    (record { start = c.in_ok-copy.field-0; step = c.in_ok-copy-2.field-0; goal = c.in_ok-copy-3.field-0 })
    c.in_ok-copy.ensures.copied c.in_ok-copy-2.ensures.copied c.in_ok-copy-3.ensures.copied
