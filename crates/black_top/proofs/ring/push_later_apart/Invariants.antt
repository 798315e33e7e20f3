use Rattle.std.proofs.Common.{◌≡◌, ◌++◌}
use Rattle.enc_layout.specs.Letters.{below}
use Rattle.black_top.specs.Ring.{apart_text}
use Rattle.black_top.proofs.ring.push_later_apart.Given as goal

abbrev pub invariant-later : goal.invariant-later
invariant-later l = l.text.items ≡ l.fn.text.items ++ below l.count (apart_text l.index)
