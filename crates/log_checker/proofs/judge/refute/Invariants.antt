use Rattle.std.proofs.Common.{◌≡◌, length}
use Rattle.log_checker.specs.Values.{letters_in, falses_in}
use Rattle.log_checker.proofs.Refuting.{Remain}
use Rattle.log_checker.proofs.judge.refute.Given as goal

abbrev pub invariant-hints : goal.invariant-hints
invariant-hints g l =
    (length l.assignment ≡ length l.fn.assignment)
    × Remain (g.C.NamedClauses.clauses l.clauses) (g.L.NamedLines.lines l.lines) (letters_in l.fn.assignment) (falses_in l.assignment) (g.H.Listed.items l.rest)
    (falses_in l.fn.assignment) (g.H.Listed.items l.fn.hints)

abbrev pub decreases-hints : goal.decreases-hints
decreases-hints g l = length (g.H.Listed.items l.rest)
