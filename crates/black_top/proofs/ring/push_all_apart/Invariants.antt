use Rattle.std.proofs.Common.{◌≡◌, ◌++◌}
use Rattle.enc_layout.specs.Letters.{below}
use Rattle.black_top.specs.Ring.{later_text}
use Rattle.black_top.proofs.ring.push_all_apart.Given as goal

abbrev pub invariant-places : goal.invariant-places
invariant-places l = l.text.items ≡ l.fn.text.items ++ below l.index (later_text l.number)
