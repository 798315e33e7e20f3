use Rattle.std.proofs.Common.{◌≡◌, ◌++◌, drop, flat_map}
use Rattle.requirement_document.specs.Values.{document_in}
use Rattle.requirement_report.specs.Text.{reply_block}
use Rattle.requirement_report.proofs.blocks.put_replies.Given as goal

abbrev pub invariant-loop-reply : goal.invariant-loop-reply
invariant-loop-reply l =
    l.out.items ++ flat_map (reply_block (document_in l.document) l.scope l.limits.steps) (drop l.reply-index l.replies)
    ≡ l.fn.out.items ++ flat_map (reply_block (document_in l.document) l.scope l.limits.steps) l.replies
