use Rattle.std.proofs.Common.{length}
use Rattle.log_checker.specs.Values.{letters_in, falses_in}
use Rattle.log_checker.proofs.Named.{IsRead}
use Rattle.log_checker.proofs.judge.of_line.Given as goal

abbrev pub invariant-literals : goal.invariant-literals
invariant-literals g l = IsRead (letters_in l.assignment) (falses_in l.assignment) (g.I.Listed.items l.fn.literals) (g.I.Listed.items l.rest) l.outcome

abbrev pub decreases-literals : goal.decreases-literals
decreases-literals g l = length (g.I.Listed.items l.rest)
