use Rattle.std.proofs.Common.{◌≡◌, ◌≤◌, ◌+◌, drop}
use Rattle.requirement_page.specs.Places.{number_behind}
use Rattle.requirement_page.proofs.places.number_behind.Given as goal

abbrev pub invariant-loop-reply : goal.invariant-loop-reply
invariant-loop-reply l =
    (number_behind l.scope l.number (drop l.reply-index l.replies) ≡ number_behind l.scope l.first l.replies)
    × (l.number ≤ l.first + l.reply-index)
