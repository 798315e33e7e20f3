use Rattle.std.proofs.Common.{◌∙◌, ◌<◌, length, sym, ap, ap₂, subst}
use Rattle.requirement_questions.specs.Members.{places}
use Rattle.requirement_document.specs.Values.{document_in}
use Rattle.requirement_answers.specs.declared.conflicts.Met.TheVariants.{Open, Conflict}
use Rattle.requirement_answers.specs.Items.{given_numbers, without}
use Rattle.requirement_answers.specs.Answers.{AreConflicts}
use Rattle.requirement_answers.specs.Inner.{AreItems, IsMet, IsTogether}
use Rattle.requirement_answers.proofs.Numbered.{given_items, without_items}
use Rattle.requirement_answers.proofs.Conflict.{conflicts_more, less_left}
use Rattle.requirement_answers.proofs.conflicts.set_aside.Goals as goal

pub conflicts-init : goal.conflicts-init
conflicts-init g c =
    let d = document_in c.args.document.now in
    record {
      items = subst (AreItems d) (sym c.in_ok-left.ensures) (given_items d);
      found = subst (λ xs. AreConflicts d (given_numbers d) xs c.in_ok-left.left.items) (sym c.new-conflicts.ensures.items) c.in_ok-left.ensures;
    }

pub conflicts-preserved : goal.conflicts-preserved
conflicts-preserved g c =
    let d = document_in c.args.document.now in
    let left = c.conflicts.left.items in
    let b = c.in-Conflict.because in
    let seen : IsMet d c.deref.result.now (Conflict b) = subst (IsMet d c.deref.result.now) c.in-Conflict.is c.in_ok-answer.ensures in
    let here : IsMet d left (Conflict b) = subst (λ xs. IsMet d xs (Conflict b)) c.deref.ensures.value seen in
    let rest = c.in_ok-left-in-Conflict.ensures ∙ ap₂ (λ ms xs. without (places ms) xs)
    (c.deref-in-Conflict-2.ensures.value ∙ ap (λ v. v.members.items) c.deref-in-Conflict.ensures) c.deref-in-Conflict-3.ensures.value in
    let more = conflicts_more d (given_numbers d) left c.conflicts.conflicts.items b c.conflicts.invariant.found here.0 here.1 in
    record {
      items = subst (AreItems d) (sym rest) (without_items d (places b.value.members.items) left c.conflicts.invariant.items);
      found = subst (λ xs. AreConflicts d (given_numbers d) xs c.in_ok-left-in-Conflict.left.items) (sym c.in_ok-push-in-Conflict.ensures.items)
          (subst (AreConflicts d (given_numbers d) _) (sym rest) more);
    }

pub conflicts-smaller : goal.conflicts-smaller
conflicts-smaller g c =
    let d = document_in c.args.document.now in
    let left = c.conflicts.left.items in
    let b = c.in-Conflict.because in
    let seen : IsMet d c.deref.result.now (Conflict b) = subst (IsMet d c.deref.result.now) c.in-Conflict.is c.in_ok-answer.ensures in
    let here : IsMet d left (Conflict b) = subst (λ xs. IsMet d xs (Conflict b)) c.deref.ensures.value seen in
    let rest = c.in_ok-left-in-Conflict.ensures ∙ ap₂ (λ ms xs. without (places ms) xs)
    (c.deref-in-Conflict-2.ensures.value ∙ ap (λ v. v.members.items) c.deref-in-Conflict.ensures) c.deref-in-Conflict-3.ensures.value in
    subst (λ xs. length xs < length left) (sym rest) (less_left d left b.value here.0 here.1)

pub returns-in-Open : goal.returns-in-Open
returns-in-Open g c =
    let d = document_in c.args.document.now in
    let left = c.conflicts.left.items in
    let a = c.in-Open.answer in
    let seen : IsMet d c.deref.result.now (Open a) = subst (IsMet d c.deref.result.now) c.in-Open.is c.in_ok-answer.ensures in
    let here : IsMet d left (Open a) = subst (λ xs. IsMet d xs (Open a)) c.deref.ensures.value seen in
    subst (IsTogether d) (sym c.in_ok-new-in-Open.ensures.ok)
    (record { items = c.conflicts.invariant.items; conflicts = c.conflicts.invariant.found; answer = here.0; settled = here.1 })
