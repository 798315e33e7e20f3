use Rattle.std.proofs.Common.{◌≡◌, ◌++◌, drop, flat_map}
use Rattle.requirement_document.specs.Values.{document_in}
use Rattle.requirement_report.specs.Letters.{name_behind}
use Rattle.requirement_report.proofs.letters.put_names_behind.Given as goal

abbrev pub invariant-loop-item : goal.invariant-loop-item
invariant-loop-item l =
    l.out.items ++ flat_map (name_behind (document_in l.document)) (drop l.item-index l.items)
    ≡ l.fn.out.items ++ flat_map (name_behind (document_in l.document)) l.items
