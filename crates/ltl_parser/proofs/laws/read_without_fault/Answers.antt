use Rattle.ltl_parser.proofs.Exists.{reading_of, no_fault}
use Rattle.ltl_parser.proofs.laws.read_without_fault.Goals as goal

pub returns : goal.returns
returns c ts = (λ w. no_fault ts w.0 w.1, λ e. reading_of ts e)
