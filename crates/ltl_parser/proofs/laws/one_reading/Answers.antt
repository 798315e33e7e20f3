use Rattle.ltl_parser.proofs.Unique.{one_reading}
use Rattle.ltl_parser.proofs.laws.one_reading.Goals as goal

pub returns : goal.returns
returns c = one_reading
