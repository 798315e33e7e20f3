use Rattle.ltl_parser.proofs.Readings.{one_count, nodes_of_text}
use Rattle.ltl_parser.proofs.laws.nodes_of_text.Goals as goal

pub returns : goal.returns
returns c = record { one_count = one_count; nodes = nodes_of_text }
