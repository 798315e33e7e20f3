use Rattle.std.proofs.Common.{◌≡◌, ◌≤◌, ◌+◌, ◌++◌, drop}
use Rattle.requirement_page.specs.Items.{conflict_notes}
use Rattle.requirement_page.proofs.notes.put_conflict_notes.Given as goal

abbrev pub invariant-loop-because : goal.invariant-loop-because
invariant-loop-because l =
    (l.out.items ++ conflict_notes l.item l.number (drop l.because-index l.conflicts) ≡ l.fn.out.items ++ conflict_notes l.item 1 l.conflicts)
    × (l.number ≤ l.because-index + 1)
