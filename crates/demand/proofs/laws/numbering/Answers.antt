use Rattle.demand.proofs.StateNumbers.{first_numbers, numbers}
use Rattle.demand.proofs.laws.numbering.Goals as goal

pub returns-clause-first : goal.returns-clause-first
returns-clause-first c = first_numbers

pub returns-clause-later : goal.returns-clause-later
returns-clause-later c = numbers
