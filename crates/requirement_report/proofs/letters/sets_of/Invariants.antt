use Rattle.std.proofs.Common.{◌≡◌, map, take}
use Rattle.requirement_document.specs.Values.{item_in}
use Rattle.requirement_report.specs.Letters.{set_of}
use Rattle.requirement_report.proofs.letters.sets_of.Given as goal

abbrev pub invariant-loop-item : goal.invariant-loop-item
invariant-loop-item l = l.sets.items ≡ map (λ i. set_of (item_in i)) (take l.item-index l.items)
