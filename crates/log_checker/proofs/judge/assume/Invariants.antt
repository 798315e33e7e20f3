use Rattle.std.proofs.Common.{◌≡◌, length}
use Rattle.log_checker.specs.Values.{letters_in}
use Rattle.log_checker.proofs.Assuming.{IsAssuming}
use Rattle.log_checker.proofs.judge.assume.Given as goal

abbrev pub invariant-literals : goal.invariant-literals
invariant-literals g l =
    (length l.assignment ≡ length l.fn.assignment)
    × IsAssuming (letters_in l.fn.assignment) (g.I.Listed.items l.fn.literals) (g.I.Listed.items l.rest) l.assignment

abbrev pub decreases-literals : goal.decreases-literals
decreases-literals g l = length (g.I.Listed.items l.rest)
