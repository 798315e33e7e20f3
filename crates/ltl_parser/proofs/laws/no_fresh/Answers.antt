use Rattle.ltl_parser.proofs.Readings.{read_without_fresh}
use Rattle.ltl_parser.proofs.laws.no_fresh.Goals as goal

pub returns : goal.returns
returns c = read_without_fresh
