use Rattle.std.proofs.Common.{◌≡◌, ◌+◌, length, All}
use Rattle.log_checker.specs.declared.worker.Area.{Area}
use Rattle.log_checker.proofs.lines.Scratch.new.Given as goal

abbrev pub invariant-workers : goal.invariant-workers
invariant-workers l = (length l.areas.items ≡ l._worker) × All (λ (area : Area). length area.assignment ≡ l.letters + 1) l.areas.items
