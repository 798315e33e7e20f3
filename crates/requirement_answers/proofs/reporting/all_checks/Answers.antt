use Rattle.std.proofs.Common.{◌∙◌, ◌<◌, length, sym, subst}
use Rattle.std.specs.List.{All}
use Rattle.std.proofs.lemmas.List.{length-map}
use Rattle.requirement_document.specs.Values.{item_in, behaviour_in, document_in}
use Rattle.requirement_answers.specs.Items.{given_numbers}
use Rattle.requirement_answers.specs.Asking.{covers_behaviour}
use Rattle.requirement_answers.specs.Checks.{behaviours_of}
use Rattle.requirement_answers.proofs.Planned.{all_below}
use Rattle.requirement_answers.proofs.Numbered.{given_items}
use Rattle.requirement_answers.proofs.reporting.all_checks.Goals as goal

pub checks-requires-clause-given : goal.checks-requires-clause-given
checks-requires-clause-given c =
    let d = c.args.document.now in
    let many = length d.items.items in
    let all = subst (λ m. All (λ n. n < m) (given_numbers (document_in d))) (length-map d.items.items item_in) (given_items (document_in d)).inside in
    subst (All (λ n. n < many)) (sym (c.deref.ensures.value ∙ c.in_ok-given.ensures)) all

pub checks-requires-clause-behaviours : goal.checks-requires-clause-behaviours
checks-requires-clause-behaviours c =
    let d = c.args.document.now in
    let many = length d.behaviours.items in
    let all = subst (λ m. All (λ n. n < m) (behaviours_of (document_in d) c.args.scope)) (length-map d.behaviours.items behaviour_in)
    (all_below (covers_behaviour c.args.scope) (length (document_in d).behaviours)) in
    subst (All (λ n. n < many)) (sym (c.deref-2.ensures.value ∙ c.in_ok-covered.ensures)) all
