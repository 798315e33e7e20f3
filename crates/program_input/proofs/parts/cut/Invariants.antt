use Rattle.std.proofs.Common.{ℕ, ◌≤◌, List, length}
use Rattle.program_input.specs.Parts.{IsLine}
use Rattle.program_input.proofs.parts.cut.Given as goal

abbrev pub invariant-loop-start : goal.invariant-loop-start
invariant-loop-start l = (before line after : List ℕ) → IsLine l.bytes before line after → l.start ≤ length before
