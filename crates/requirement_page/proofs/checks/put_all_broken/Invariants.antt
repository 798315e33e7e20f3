use Rattle.std.proofs.Common.{◌≡◌, ◌++◌, drop, flat_map}
use Rattle.requirement_document.specs.Values.{document_in}
use Rattle.requirement_page.specs.Checks.{broken_item}
use Rattle.requirement_page.proofs.checks.put_all_broken.Given as goal

abbrev pub invariant-loop-broken : goal.invariant-loop-broken
invariant-loop-broken l =
    l.out.items ++ flat_map (broken_item (document_in l.document)) (drop l.broken-index l.breaks)
    ≡ l.fn.out.items ++ flat_map (broken_item (document_in l.document)) l.breaks
