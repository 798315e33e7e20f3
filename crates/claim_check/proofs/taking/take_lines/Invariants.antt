use Rattle.std.proofs.Common.{◌≡◌, ◌≤◌, length}
use Rattle.log_checker.specs.Values.{letters_in}
use Rattle.claim_check.proofs.TakenLines.{IsTaken}
use Rattle.claim_check.proofs.taking.take_lines.Given as goal

abbrev pub invariant-lines : goal.invariant-lines
invariant-lines l = (l.k ≤ length l.hinted.literals) × (length l.assignment ≡ length l.fn.assignment)
    × IsTaken l.clauses l.fn.lines (letters_in l.fn.assignment) l.hinted.literals l.hinted.hints l.k l.lines
