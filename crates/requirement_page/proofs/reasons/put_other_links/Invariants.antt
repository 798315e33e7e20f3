use Rattle.std.proofs.Common.{◌≡◌, ◌++◌, drop, flat_map}
use Rattle.requirement_document.specs.Values.{document_in}
use Rattle.requirement_page.specs.Reasons.{behind_comma}
use Rattle.requirement_page.proofs.reasons.put_other_links.Given as goal

abbrev pub invariant-loop-member : goal.invariant-loop-member
invariant-loop-member l =
    l.out.items ++ flat_map (behind_comma (document_in l.document)) (drop l.member-index l.members)
    ≡ l.fn.out.items ++ flat_map (behind_comma (document_in l.document)) l.members
