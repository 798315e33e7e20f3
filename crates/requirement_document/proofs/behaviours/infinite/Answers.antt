use Rattle.std.proofs.Common.{Some, refl, sym, ap, ◌∙◌, true≢false}
use Rattle.toml.specs.View.{view}
use Rattle.ltl_word.specs.declared.trace.Trace.TheVariants.{Infinite}
use Rattle.requirement_document.specs.declared.fault.Section.TheVariants as sections
use Rattle.requirement_document.specs.Entry.{states_data}
use Rattle.requirement_document.specs.Inner.{IsRefusedAt}
use Rattle.requirement_document.proofs.Refusing.{handed_on}
use Rattle.ltl_word.proofs.Parts.{sets_of_none, sets_of_some}
use Rattle.requirement_document.proofs.behaviours.infinite.Goals as goal

pub returns-in_err-stem-clause-err : goal.returns-in_err-stem-clause-err
returns-in_err-stem-clause-err c ds taken =
    handed_on (IsRefusedAt sections.Behaviour ds taken (view c.args.entry.now)) c.in_err-stem.field-0.0 c.from_residual.result
    (c.in_err-stem.ensures.err ds taken) c.from_residual.ensures

pub returns-in_err-loop_part-clause-err : goal.returns-in_err-loop_part-clause-err
returns-in_err-loop_part-clause-err c ds taken =
    let refused = c.from_residual-in_err-loop_part in
    handed_on (IsRefusedAt sections.Behaviour ds taken (view c.args.entry.now)) c.in_err-loop_part.field-0.0 refused.result
    (c.in_err-loop_part.ensures.err ds taken) refused.ensures

pub returns-then-is_empty-clause-err : goal.returns-then-is_empty-clause-err
returns-then-is_empty-clause-err c ds taken =
    let ok = c.in_ok-loop_part.ensures.ok in
    (refl, ok.1 ∙ ap (λ all. Some (states_data all)) (sets_of_none ok.0 c.in_ok-loop_part.loop_part ok.2 (c.is_empty.ensures.0 c.if-is_empty.true)))

pub returns-clause-ok : goal.returns-clause-ok
returns-clause-ok c =
    let stem = c.in_ok-stem.ensures.ok in
    let again = c.in_ok-loop_part.ensures.ok in
    let some = sets_of_some again.0 c.in_ok-loop_part.loop_part again.2 (λ e. true≢false (sym (c.is_empty.ensures.1 e) ∙ c.if-is_empty.false)) in
    (Infinite stem.0 again.0, (c.requires.states, stem.1, again.1), some, (stem.2, again.2))
