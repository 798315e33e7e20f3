use Rattle.std.proofs.Common.{◌≡◌, ◌++◌, drop, flat_map}
use Rattle.requirement_document.specs.Values.{document_in}
use Rattle.requirement_report.specs.Letters.{use_in, use_line}
use Rattle.requirement_report.proofs.letters.put_uses.Given as goal

abbrev pub invariant-loop-one : goal.invariant-loop-one
invariant-loop-one l =
    l.out.items ++ flat_map (λ u. use_line (document_in l.document) (use_in u)) (drop l.one-index l.uses)
    ≡ l.fn.out.items ++ flat_map (λ u. use_line (document_in l.document) (use_in u)) l.uses
