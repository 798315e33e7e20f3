use Rattle.std.proofs.Common.{◌≡◌, ◌≤◌, ◌+◌, ◌++◌, drop}
use Rattle.requirement_document.specs.Values.{document_in}
use Rattle.requirement_page.specs.Page.{check_articles}
use Rattle.requirement_page.proofs.whole.put_checks.Given as goal

abbrev pub invariant-loop-check : goal.invariant-loop-check
invariant-loop-check l =
    (l.out.items ++ check_articles (document_in l.document) l.number (drop l.check-index l.checks)
    ≡ l.fn.out.items ++ check_articles (document_in l.document) l.first l.checks)
    × (l.number ≤ l.first + l.check-index)
