use Rattle.demand.proofs.Agreeing.{close_same, prunings_same}
use Rattle.demand.proofs.Last.{done_last}
use Rattle.demand.proofs.ValueLists.{difference_none, difference_of_same, difference_is}
use Rattle.demand.proofs.laws.rows.Goals as goal

pub returns-clause-decide : goal.returns-clause-decide
returns-clause-decide c kind k a b same = (close_same a b k same kind, prunings_same a b k same kind)

pub returns-clause-last : goal.returns-clause-last
returns-clause-last c = done_last

pub returns-clause-differences : goal.returns-clause-differences
returns-clause-differences c xs ys = (difference_none xs ys, difference_of_same xs ys)

pub returns-clause-place : goal.returns-clause-place
returns-clause-place c = difference_is
