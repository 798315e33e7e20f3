use Rattle.std.proofs.Common.{◌≡◌, ◌++◌, drop}
use Rattle.requirement_document.specs.Values.{document_in}
use Rattle.requirement_page.specs.Page.{conflict_articles}
use Rattle.requirement_page.proofs.whole.put_conflicts.Given as goal

abbrev pub invariant-loop-because : goal.invariant-loop-because
invariant-loop-because l =
    (l.out.items ++ conflict_articles (document_in l.document) l.cores l.place (drop l.because-index l.conflicts)
    ≡ l.fn.out.items ++ conflict_articles (document_in l.document) l.cores 0 l.conflicts)
    × (l.place ≡ l.because-index)
