use Rattle.std.proofs.Common.{arith}
use Rattle.ltl_run.proofs.Shorter.{shorter}
use Rattle.ltl_run.proofs.Least.{least_unpruned, unpruned_from}
use Rattle.ltl_run.proofs.laws.pruning.Goals as goal

pub returns-clause-shorter : goal.returns-clause-shorter
returns-clause-shorter c f kind k i r run acc le p = let w = shorter f k r run kind acc i le p in (w.0, w.1, (w.2, w.3, w.4))

pub returns-clause-least : goal.returns-clause-least
returns-clause-least c = least_unpruned

pub returns-clause-unpruned : goal.returns-clause-unpruned
returns-clause-unpruned c f kind k h = unpruned_from f kind k k (omega arith) h
