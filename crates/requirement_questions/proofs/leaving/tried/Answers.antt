use Rattle.std.proofs.Common.{◌≡◌, ◌∙◌, ◌+◌, ◌-◌, ◌<◌, ◌≤◌, length, sym, ap, subst, arith}
use Rattle.std.specs.List.{All}
use Rattle.std.proofs.lemmas.Result.{IfOk-weaker}
use Rattle.requirement_questions.specs.Members.{places, without_some}
use Rattle.requirement_questions.specs.Settling.{IsRefuted, IsMade, IsSettled}
use Rattle.requirement_questions.specs.declared.settling.Settled.TheVariants as settled
use Rattle.requirement_questions.specs.Answer.{IsBecause}
use Rattle.requirement_questions.proofs.LeftOut.{rest_all, left_out, left_many, is_noted, noted_many}
use Rattle.requirement_questions.proofs.leaving.tried.Goals as goal

pub settle-requires-clause-members : goal.settle-requires-clause-members
settle-requires-clause-members c =
    let q = c.args.question.now in
    let n = c.args.end - c.args.first in
    let before = c.args.because.value in
    let is : c.in_ok-rest.rest.items ≡ without_some c.args.first n before.members.items = let v = c.deref-2.ensures.value in let w = c.deref.ensures in
    c.in_ok-rest.ensures ∙ ap (without_some c.args.first n) (cc) in
    subst (All (λ m. m.given < length q.given.now)) (sym c.deref-3.ensures.value)
    (rest_all q c.args.first n before.members.items c.in_ok-rest.rest.items c.requires.because.members is)

pub returns-in-Impossible-clause-because : goal.returns-in-Impossible-clause-because
returns-in-Impossible-clause-because c =
    let q = c.args.question.now in
    let n = c.args.end - c.args.first in
    let before = c.args.because.value in
    let rest = c.in_ok-rest.rest.items in
    let r = c.in-Impossible.refuted.value in
    let is : rest ≡ without_some c.args.first n before.members.items = let v = c.deref-2.ensures.value in let w = c.deref.ensures in
    c.in_ok-rest.ensures ∙ ap (without_some c.args.first n) (cc) in
    let found = subst (IsSettled q (places c.deref-3.result.now)) c.in-Impossible.is c.in_ok-refuted.ensures in
    let here = subst (λ ms. IsRefuted q (places ms) r.certificate r.table r.root) (c.deref-3.ensures.value ∙ is) found in
    IfOk-weaker c.because_of.result (λ b. IsMade rest r b.value) (λ b. IsBecause q b.value)
    (λ b made. left_out q c.args.first n before b.value r c.nothing_satisfies.ensures c.requires.because (subst (λ ms. IsMade ms r b.value) is made) here)
    c.because_of.ensures

pub returns-in-Impossible-clause-many : goal.returns-in-Impossible-clause-many
returns-in-Impossible-clause-many c =
    let n = c.args.end - c.args.first in
    let before = c.args.because.value in
    let rest = c.in_ok-rest.rest.items in
    let r = c.in-Impossible.refuted.value in
    let is : rest ≡ without_some c.args.first n before.members.items = let v = c.deref-2.ensures.value in let w = c.deref.ensures in
    c.in_ok-rest.ensures ∙ ap (without_some c.args.first n) (cc) in
    let within : c.args.first + n ≤ length before.members.items = omega (arith, c.requires.order, c.requires.there) in
    IfOk-weaker c.because_of.result (λ b. IsMade rest r b.value) (λ b. length before.members.items ≤ length b.value.members.items + n)
    (λ b made. left_many c.args.first n before.members.items rest r b.value within is made) c.because_of.ensures

pub returns-in-Possible-clause-because : goal.returns-in-Possible-clause-because
returns-in-Possible-clause-because c =
    let q = c.args.question.now in
    let n = c.args.end - c.args.first in
    let before = c.args.because.value in
    let rest = c.in_ok-rest.rest.items in
    let t = c.in-Possible.field-0 in
    let is : rest ≡ without_some c.args.first n before.members.items = let v = c.deref-2.ensures.value in let w = c.deref.ensures in
    c.in_ok-rest.ensures ∙ ap (without_some c.args.first n) (cc) in
    let found = subst (IsSettled q (places c.deref-3.result.now)) c.in-Possible.is c.in_ok-refuted.ensures in
    let here = subst (λ ms. IsSettled q (places ms) (settled.Possible t)) (c.deref-3.ensures.value ∙ is) found in
    is_noted q c.args.first n before c.noted.result.value t c.requires.because here c.noted.ensures

pub returns-in-Possible-clause-many : goal.returns-in-Possible-clause-many
returns-in-Possible-clause-many c =
    let n = c.args.end - c.args.first in
    let long = noted_many c.args.first n c.args.because.value c.noted.result.value c.noted.ensures in omega (arith, long)
