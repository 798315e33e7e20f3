use Rattle.std.proofs.Common.{◌≡◌, ◌++◌, replicate}
use Rattle.black_top.proofs.ring.push_opening.Given as goal

abbrev pub invariant-parts : goal.invariant-parts
invariant-parts l = l.text.items ≡ l.fn.text.items ++ replicate l._part 40
