use Rattle.std.proofs.Common.{◌≡◌, ◌++◌}
use Rattle.trace_view.specs.Text.{below}
use Rattle.requirement_document.specs.Values.{document_in}
use Rattle.requirement_page.specs.Items.{behaviour_article}
use Rattle.requirement_page.proofs.items.put_behaviours.Given as goal

abbrev pub invariant-behaviours : goal.invariant-behaviours
invariant-behaviours l = l.out.items ≡ l.initial.out.items ++ below l.number (behaviour_article (document_in l.document) l.scope l.report)
