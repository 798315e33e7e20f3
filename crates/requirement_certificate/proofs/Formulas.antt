-- What a right report says of each of its answers that there is no trace.
use Rattle.std.proofs.Common.{ℕ, List, [], ◌∷◌, All, subst}
use Rattle.std.specs.Global.{Box}
use Rattle.std.proofs.lemmas.List.Elements.{All-nil, All-cons, All-head, All-tail}
use Rattle.ltl_syntax.specs.Formula.{Formula}
use Rattle.requirement_questions.specs.declared.leaving.Because.{Because}
use Rattle.requirement_questions.specs.declared.answering.QuestionAnswer.{QuestionAnswer}
use Rattle.requirement_questions.specs.declared.answering.QuestionAnswer.TheVariants as answers
use Rattle.requirement_questions.specs.Members.{places}
use Rattle.requirement_document.specs.Values.{DocumentValue}
use Rattle.requirement_answers.specs.declared.asking.Asking.{Asking}
use Rattle.requirement_answers.specs.declared.asking.Asking.TheVariants as askings
use Rattle.requirement_answers.specs.declared.asking.Reply.{Reply}
use Rattle.requirement_answers.specs.declared.findings.Report.{Report}
use Rattle.requirement_answers.specs.declared.findings.Scope.{Scope}
use Rattle.requirement_answers.specs.Items.{without}
use Rattle.requirement_answers.specs.Asking.{asked_of, given_for}
use Rattle.requirement_answers.specs.Answers.{IsReason, IsAnswerTo, IsReply, AreConflicts}
use Rattle.requirement_answers.specs.Reports.{IsReport}
use Rattle.requirement_certificate.specs.Chosen.{IsFirstConflict, IsCannot, IsFirstReply, IsFirstBecause, of_conflict, of_reply}
use Rattle.requirement_certificate.proofs.First.{one_of}
use Rattle.requirement_certificate.specs.Text.{HasFormula, AnswerHasFormula, HaveFormulas}

-- some given items cannot be with what is asked, because of this
abbrev pub IsReasonFor : DocumentValue → Asking → Because → Type 0
IsReasonFor d asking b = (given : List ℕ) × IsReason d given (asked_of d asking) b

conflict_reasons : (d : DocumentValue) (given : List ℕ) (bs : List (Box Because)) (left : List ℕ) → AreConflicts d given bs left
    → All (λ c. IsReasonFor d askings.Together c.value) bs
conflict_reasons d given [] left are = All-nil (λ c. IsReasonFor d askings.Together c.value)
conflict_reasons d given (b ∷ bs) left (is, some, rest) =
    All-cons (λ c. IsReasonFor d askings.Together c.value) b bs (given, is) (conflict_reasons d (without (places b.value.members.items) given) bs left rest)

answer_reason : (d : DocumentValue) (given : List ℕ) (asked : List Formula) (a : QuestionAnswer) (b : Because) → IsAnswerTo d given asked a → IsCannot a b
    → IsReason d given asked b
answer_reason d given asked (answers.Cannot c) b is cannot = subst (IsReason d given asked) cannot is
answer_reason d given asked other b is cannot = absurd cannot

module _ (d : DocumentValue) (scope : Scope) (r : Report) (is : IsReport d scope r) where
  conflict_reason : (b : Because) → IsFirstConflict r scope b → IsReasonFor d askings.Together b
  conflict_reason b h =
      subst (IsReasonFor d askings.Together) h.same
      (one_of (λ c. IsReasonFor d askings.Together c.value) r.conflicts.items h.place h.conflict
      (conflict_reasons d _ r.conflicts.items r.left.items is.conflicts) h.there)

  reply_reason : (asking : Asking) (b : Because) → IsFirstReply r asking b → IsReasonFor d asking b
  reply_reason asking b h =
      let replied = one_of (IsReply d r.left.items) r.replies.items h.place h.reply is.answered h.there in
      let given = given_for r.left.items h.reply.asking in
      subst (λ a. IsReasonFor d a b) h.question (given, answer_reason d given (asked_of d h.reply.asking) h.reply.answer b replied h.cannot)

  -- the first answer that says so is right
  pub first_reason : (asking : Asking) (b : Because) → IsFirstBecause r scope asking b → IsReasonFor d asking b
  first_reason asking b (of_conflict _ h) = conflict_reason b h
  first_reason asking b (of_reply _ _ none h) = reply_reason asking b h

-- ---- each of them has its formula

conflicts_have : (d : DocumentValue) (given : List ℕ) (bs : List (Box Because)) (left : List ℕ) → AreConflicts d given bs left
    → All (λ c. HasFormula c.value) bs
conflicts_have d given [] left are = All-nil (λ c. HasFormula c.value)
conflicts_have d given (b ∷ bs) left (is, some, rest) =
    All-cons (λ c. HasFormula c.value) b bs is.there (conflicts_have d (without (places b.value.members.items) given) bs left rest)

answer_has : (d : DocumentValue) (given : List ℕ) (asked : List Formula) (a : QuestionAnswer) → IsAnswerTo d given asked a → AnswerHasFormula a
answer_has d given asked (answers.Cannot b) is = is.there
answer_has d given asked other is = tt

replies_have : (d : DocumentValue) (left : List ℕ) (rs : List Reply) → All (IsReply d left) rs → All (λ p. AnswerHasFormula p.answer) rs
replies_have d left [] are = All-nil (λ p. AnswerHasFormula p.answer)
replies_have d left (p ∷ rs) are =
    All-cons (λ x. AnswerHasFormula x.answer) p rs (answer_has d (given_for left p.asking) (asked_of d p.asking) p.answer (All-head (IsReply d left) p rs are))
    (replies_have d left rs (All-tail (IsReply d left) p rs are))

pub report_has : (d : DocumentValue) (scope : Scope) (r : Report) → IsReport d scope r → HaveFormulas r
report_has d scope r is = record {
  conflicts = conflicts_have d _ r.conflicts.items r.left.items is.conflicts;
  replies = replies_have d r.left.items r.replies.items is.answered;
}
