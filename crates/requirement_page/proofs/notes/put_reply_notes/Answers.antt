use Rattle.std.proofs.Common.{◌≡◌, ◌+◌, ◌++◌, drop, arith, refl, subst, sym}
use Rattle.requirement_page.specs.Places.{next_number}
use Rattle.requirement_page.specs.Items.{reply_notes}
use Rattle.requirement_report.proofs.Loops.{one_more}
use Rattle.requirement_page.proofs.notes.put_reply_notes.Goals as goal

pub loop-reply-preserved : goal.loop-reply-preserved
loop-reply-preserved c =
    let i = c.loop-reply.reply-index in
    let r = c.reply-item.result in
    let n = c.loop-reply.number in (
      subst (λ m. c.put_reply_note.new.out.items ++ reply_notes c.args.scope c.args.item m (drop (i + 1) c.args.replies.now)
          ≡ c.args.out.now.items ++ reply_notes c.args.scope c.args.item c.args.first c.args.replies.now) (sym c.next_number-number.ensures.number)
          (one_more (reply_notes c.args.scope c.args.item n) c.args.replies.now i r _ (reply_notes c.args.scope c.args.item (next_number c.args.scope n r)
          (drop (i + 1) c.args.replies.now)) _ _ _
          c.loop-reply-test.true c.reply-item.is refl c.loop-reply.invariant.0 c.in_ok-put_reply_note.ensures),
      omega (arith, c.loop-reply.invariant.1, c.next_number-number.ensures.next),
    )
