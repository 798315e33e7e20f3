use Rattle.ltl_word.proofs.Periodicity.{Holds-repeats}
use Rattle.ltl_word.proofs.laws.periodic.Goals as goal

pub returns : goal.returns
returns c stem loop_part f h i some deep from = let r = Holds-repeats stem loop_part some f h deep in (r.later i from, r.earlier i from)
