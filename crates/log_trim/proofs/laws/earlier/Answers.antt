use Rattle.log_trim.proofs.Marks.{needed_lines, there}
use Rattle.log_trim.proofs.laws.earlier.Goals as goal

pub returns-clause-needed : goal.returns-clause-needed
returns-clause-needed c log targets n is lines needed = needed_lines log targets is lines needed

pub returns-clause-there : goal.returns-clause-there
returns-clause-there c hints i d hint lt e = there hints i d hint lt e
