use Rattle.unravel.specs.Putting.{HasMore}
use Rattle.unravel.proofs.demanded.add_numbers.Given as goal

abbrev pub invariant-clauses : goal.invariant-clauses
invariant-clauses l = HasMore l.listed l.fn.inputs l.inputs
