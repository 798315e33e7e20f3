use Rattle.std.proofs.Common.{◌≡◌, ◌++◌, drop, flat_map}
use Rattle.requirement_document.specs.Values.{item_in}
use Rattle.requirement_report.specs.Letters.{item_letters}
use Rattle.requirement_report.proofs.letters.put_all_letters.Given as goal

abbrev pub invariant-loop-item : goal.invariant-loop-item
invariant-loop-item l =
    l.names.items ++ flat_map (λ i. item_letters (item_in i)) (drop l.item-index l.items)
    ≡ l.fn.names.items ++ flat_map (λ i. item_letters (item_in i)) l.items
