use Rattle.std.proofs.Common.{◌≡◌, ◌≤◌, ◌+◌, drop}
use Rattle.requirements_top.specs.Pointing.{characters}
use Rattle.requirements_top.proofs.pointing.characters.Given as goal

abbrev pub invariant-loop-byte : goal.invariant-loop-byte
invariant-loop-byte l = (l.count + characters (drop l.byte-index l.text) ≡ characters l.text) × (l.count ≤ l.byte-index)
