use Rattle.std.proofs.Common.{◌≡◌, ◌+◌, ◌++◌, drop, arith, refl, subst, sym}
use Rattle.requirement_document.specs.Values.{document_in}
use Rattle.requirement_page.specs.Places.{next_number}
use Rattle.requirement_page.specs.Page.{reply_articles}
use Rattle.requirement_report.proofs.Loops.{one_more}
use Rattle.requirement_page.proofs.whole.put_replies.Goals as goal

pub loop-reply-preserved : goal.loop-reply-preserved
loop-reply-preserved c =
    let d = document_in c.args.document.now in
    let s = c.args.limits.steps in
    let i = c.loop-reply.reply-index in
    let r = c.reply-item.result in
    let n = c.loop-reply.number in (
      subst (λ m. c.put_reply_if.new.out.items ++ reply_articles d c.args.scope s m (drop (i + 1) c.args.replies.now)
          ≡ c.args.out.now.items ++ reply_articles d c.args.scope s c.args.first c.args.replies.now) (sym c.next_number-number.ensures.number)
          (one_more (reply_articles d c.args.scope s n) c.args.replies.now i r _ (reply_articles d c.args.scope s (next_number c.args.scope n r) (drop
          (i + 1) c.args.replies.now)) _ _ _
          c.loop-reply-test.true c.reply-item.is refl c.loop-reply.invariant.0 c.in_ok-put_reply_if.ensures),
      omega (arith, c.loop-reply.invariant.1, c.next_number-number.ensures.next),
    )
