use Rattle.std.proofs.Common.{◌≡◌, ◌≤◌, ◌+◌, ◌++◌, drop}
use Rattle.requirement_document.specs.Values.{document_in}
use Rattle.requirement_page.specs.Page.{reply_articles}
use Rattle.requirement_page.proofs.whole.put_replies.Given as goal

abbrev pub invariant-loop-reply : goal.invariant-loop-reply
invariant-loop-reply l =
    (l.out.items ++ reply_articles (document_in l.document) l.scope l.limits.steps l.number (drop l.reply-index l.replies)
    ≡ l.fn.out.items ++ reply_articles (document_in l.document) l.scope l.limits.steps l.first l.replies)
    × (l.number ≤ l.first + l.reply-index)
