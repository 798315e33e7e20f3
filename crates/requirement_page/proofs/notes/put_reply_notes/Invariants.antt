use Rattle.std.proofs.Common.{◌≡◌, ◌≤◌, ◌+◌, ◌++◌, drop}
use Rattle.requirement_page.specs.Items.{reply_notes}
use Rattle.requirement_page.proofs.notes.put_reply_notes.Given as goal

abbrev pub invariant-loop-reply : goal.invariant-loop-reply
invariant-loop-reply l =
    (l.out.items ++ reply_notes l.scope l.item l.number (drop l.reply-index l.replies) ≡ l.fn.out.items ++ reply_notes l.scope l.item l.first l.replies)
    × (l.number ≤ l.first + l.reply-index)
