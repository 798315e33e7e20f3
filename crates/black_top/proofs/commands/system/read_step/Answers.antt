use Rattle.black_top.proofs.SystemReading.{step_faulty}
use Rattle.black_top.proofs.commands.system.read_step.Goals as goal

pub returns-in-Faulty : goal.returns-in-Faulty
returns-in-Faulty c =
    let is = rw c.in-Faulty.is at c.in_ok-step.ensures in
    step_faulty c.args.options.depth c.args.options.cert c.args.parts.now c.refusal.result c.in-Faulty.fault c.requires.short c.refusal.ensures c.args.start.now
    c.requires.start is
