use Rattle.requirement_report.proofs.Using.{has_is}
use Rattle.requirement_report.proofs.letters.has.Goals as goal

pub returns : goal.returns
returns c = has_is c.has.result c.args.letter.now c.args.set.now c.has.ensures
