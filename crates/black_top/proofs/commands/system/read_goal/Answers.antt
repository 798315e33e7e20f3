use Rattle.black_top.proofs.SystemReading.{goal_faulty, joined_shown}
use Rattle.black_top.proofs.commands.system.read_goal.Goals as goal

pub returns-in-Read : goal.returns-in-Read
returns-in-Read c =
    let is = rw c.in-Read.is at c.in_ok-goal.ensures in
    joined_shown c.args.options.depth c.args.options.cert c.args.parts.now c.join.result c.args.start.now c.args.step.now c.in-Read.goal c.requires.short
    c.requires.start c.requires.step is c.join.ensures

pub returns-in-Faulty : goal.returns-in-Faulty
returns-in-Faulty c =
    let is = rw c.in-Faulty.is at c.in_ok-goal.ensures in
    goal_faulty c.args.options.depth c.args.options.cert c.args.parts.now c.refusal.result c.in-Faulty.fault c.requires.short c.refusal.ensures c.args.start.now
    c.args.step.now c.requires.start c.requires.step is
