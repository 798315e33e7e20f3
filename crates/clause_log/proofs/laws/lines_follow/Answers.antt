use Rattle.clause_log.proofs.LogLemmas.{lines_follow}
use Rattle.clause_log.proofs.laws.lines_follow.Goals as goal

pub returns : goal.returns
returns c = lines_follow
