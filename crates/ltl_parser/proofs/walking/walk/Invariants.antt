use Rattle.std.proofs.Common.{ℕ, ◌*◌, ◌≤◌, List}
use Rattle.ltl_parser.specs.Text.{symbols}
use Rattle.ltl_parser.specs.Standing.{IsWalking}
use Rattle.ltl_parser.proofs.walking.walk.Given as goal

abbrev pub invariant-loop-i : goal.invariant-loop-i
invariant-loop-i l = ((text : List ℕ) → IsWalking (symbols text l.tokens) l.i l.wanted l.depth l.nodes) × (l.nodes ≤ 255 * l.i) × (l.depth ≤ l.i)
