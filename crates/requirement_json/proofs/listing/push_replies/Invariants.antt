use Rattle.std.proofs.Common.{◌≡◌, ◌++◌, map, drop}
use Rattle.serde_json.specs.View.{view}
use Rattle.requirement_document.specs.Values.{document_in}
use Rattle.requirement_json.specs.Answers.{reply_data}
use Rattle.requirement_json.proofs.listing.push_replies.Given as goal

abbrev pub invariant-loop-reply : goal.invariant-loop-reply
invariant-loop-reply l =
    map view l.answers.items ++ map (reply_data (document_in l.document) l.limits.steps) (drop l.reply-index l.replies)
    ≡ map view l.fn.answers.items ++ map (reply_data (document_in l.document) l.limits.steps) l.replies
