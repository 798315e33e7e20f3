use Rattle.std.proofs.Common.{◌≡◌, ◌++◌, map, take}
use Rattle.cdcl_watches.specs.Watching.{code}
use Rattle.cdcl_watches.specs.Turned.{turned}
use Rattle.cdcl_watches.proofs.arena.put_codes.Given as goal

abbrev pub invariant-loop-place : goal.invariant-loop-place
invariant-loop-place l = l.items.items ≡ l.initial.items.items ++ map code (take l.place (turned l.row))
