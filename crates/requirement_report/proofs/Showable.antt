-- What a right report says can be shown.
use Rattle.std.proofs.Common.{ℕ, List, [], ◌∷◌, All}
use Rattle.std.specs.Global.{Box}
use Rattle.std.proofs.lemmas.List.Elements.{All-nil, All-cons, All-head, All-tail}
use Rattle.ltl_syntax.specs.Formula.{Formula}
use Rattle.requirement_document.specs.Values.{DocumentValue}
use Rattle.requirement_questions.specs.declared.leaving.Because.{Because}
use Rattle.requirement_questions.specs.declared.answering.QuestionAnswer.{QuestionAnswer}
use Rattle.requirement_questions.specs.declared.answering.QuestionAnswer.TheVariants as answers
use Rattle.requirement_answers.specs.declared.asking.Reply.{Reply}
use Rattle.requirement_answers.specs.declared.findings.Report.{Report}
use Rattle.requirement_answers.specs.declared.findings.Scope.{Scope}
use Rattle.requirement_questions.specs.Members.{places}
use Rattle.requirement_answers.specs.Asking.{asked_of, given_for}
use Rattle.requirement_answers.specs.Items.{without}
use Rattle.requirement_answers.specs.Answers.{IsReason, IsAnswerTo, IsReply, AreConflicts}
use Rattle.requirement_answers.specs.Reports.{IsReport}
use Rattle.requirement_report.specs.Shown.{CanBeShown, AnswerCanBeShown, ReportCanBeShown, LawfulCanBeShown}

because_shown : LawfulCanBeShown → (d : DocumentValue) (given : List ℕ) (asked : List Formula) (b : Because) → IsReason d given asked b → CanBeShown b
because_shown law d given asked b is = law b d.kind is.there is.lawful

conflicts_shown : LawfulCanBeShown → (d : DocumentValue) (given : List ℕ) (bs : List (Box Because)) (left : List ℕ) → AreConflicts d given bs left
    → All (λ b. CanBeShown b.value) bs
conflicts_shown law d given [] left are = All-nil (λ b. CanBeShown b.value)
conflicts_shown law d given (b ∷ bs) left (is, some, rest) =
    All-cons (λ c. CanBeShown c.value) b bs (because_shown law d given [] b.value is)
    (conflicts_shown law d (without (places b.value.members.items) given) bs left rest)

answer_shown : LawfulCanBeShown → (d : DocumentValue) (given : List ℕ) (asked : List Formula) (a : QuestionAnswer) → IsAnswerTo d given asked a
    → AnswerCanBeShown a
answer_shown law d given asked (answers.Cannot b) is = because_shown law d given asked b.value is
answer_shown law d given asked other is = tt

replies_shown : LawfulCanBeShown → (d : DocumentValue) (left : List ℕ) (rs : List Reply) → All (IsReply d left) rs → All (λ p. AnswerCanBeShown p.answer) rs
replies_shown law d left [] are = All-nil (λ p. AnswerCanBeShown p.answer)
replies_shown law d left (r ∷ rs) are =
    All-cons (λ p. AnswerCanBeShown p.answer) r rs
    (answer_shown law d (given_for left r.asking) (asked_of d r.asking) r.answer (All-head (IsReply d left) r rs are))
    (replies_shown law d left rs (All-tail (IsReply d left) r rs are))

pub report_shown : LawfulCanBeShown → (d : DocumentValue) (scope : Scope) (r : Report) → IsReport d scope r → ReportCanBeShown r
report_shown law d scope r is = record {
  conflicts = conflicts_shown law d _ r.conflicts.items r.left.items is.conflicts;
  together = answer_shown law d r.left.items [] r.together is.together;
  replies = replies_shown law d r.left.items r.replies.items is.answered;
}
