use Rattle.std.proofs.Common.{◌∙◌, ◌<◌, length, sym, ap, subst, arith}
use Rattle.std.specs.List.{All}
use Rattle.requirement_questions.specs.Formulas.{SatisfiesEach, some_formulas}
use Rattle.requirement_questions.specs.Members.{places, counted}
use Rattle.requirement_questions.specs.Settling.{IsSettled}
use Rattle.requirement_questions.proofs.LeftOut.{members_all, all_are, all_picked}
use Rattle.requirement_questions.proofs.answering.answer_question.Goals as goal

pub first_members-requires : goal.first_members-requires
first_members-requires c = omega (arith, c.in_ok-size.ensures.many, c.if-size-gt16384.false)

pub settle-requires-clause-members : goal.settle-requires-clause-members
settle-requires-clause-members c =
    let q = c.args.question.now in
    subst (All (λ m. m.given < length q.given.now)) (sym (c.deref.ensures.value ∙ c.in_ok-members.ensures))
    (members_all q (counted (length q.given.now)) (all_are q))

pub returns-in-Possible : goal.returns-in-Possible
returns-in-Possible c =
    let q = c.args.question.now in
    let t = c.in-Possible.trace in
    let found = subst (IsSettled q (places c.deref.result.now)) c.in-Possible.is c.in_ok-trace.ensures in
    subst (λ fs. SatisfiesEach q.kind fs t) (ap (λ ms. some_formulas q (places ms)) (c.deref.ensures.value ∙ c.in_ok-members.ensures) ∙ all_picked q) found

pub returns-in-Undecided : goal.returns-in-Undecided
returns-in-Undecided c = omega (arith, c.in_ok-size.ensures.size, c.if-size-gt16384.false)
