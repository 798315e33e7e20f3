use Rattle.requirement_report.proofs.Using.{set_is}
use Rattle.requirement_report.proofs.letters.ascending.Goals as goal

pub returns : goal.returns
returns c = set_is c.args.names.items c.from_names.result c.from_names.ensures.ascending c.from_names.ensures.members
