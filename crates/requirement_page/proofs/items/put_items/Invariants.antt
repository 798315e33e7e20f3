use Rattle.std.proofs.Common.{◌≡◌, ◌++◌}
use Rattle.trace_view.specs.Text.{below}
use Rattle.requirement_document.specs.Values.{document_in}
use Rattle.requirement_page.specs.Items.{item_article}
use Rattle.requirement_page.proofs.items.put_items.Given as goal

abbrev pub invariant-items : goal.invariant-items
invariant-items l = l.out.items ≡ l.initial.out.items ++ below l.number (item_article (document_in l.document) l.scope l.report)
