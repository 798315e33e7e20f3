use Rattle.std.proofs.Common.{◌≡◌, ◌≤◌, ◌+◌, ◌++◌, drop}
use Rattle.requirement_page.specs.Items.{check_notes}
use Rattle.requirement_page.proofs.notes.put_check_notes.Given as goal

abbrev pub invariant-loop-check : goal.invariant-loop-check
invariant-loop-check l =
    (l.out.items ++ check_notes l.behaviour l.number (drop l.check-index l.checks) ≡ l.fn.out.items ++ check_notes l.behaviour l.first l.checks)
    × (l.number ≤ l.first + l.check-index)
