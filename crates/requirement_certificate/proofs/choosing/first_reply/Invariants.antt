use Rattle.std.proofs.Common.{◌≡◌, ◌<◌, ℕ, Some, slice_get}
use Rattle.requirement_answers.specs.declared.asking.Reply.{Reply}
use Rattle.requirement_certificate.specs.Chosen.{IsOther}
use Rattle.requirement_certificate.proofs.choosing.first_reply.Given as goal

abbrev pub invariant-replies : goal.invariant-replies
invariant-replies l = record { before : (j : ℕ) (p : Reply) → j < l.place → slice_get l.report.replies.items j ≡ Some p → IsOther p.answer }
