use Rattle.std.proofs.Common.{Some, refl, sym, ap, ◌∙◌, true≢false}
use Rattle.toml.specs.View.{view}
use Rattle.ltl_word.specs.declared.trace.Trace.TheVariants.{Finite}
use Rattle.requirement_document.specs.declared.fault.Section.TheVariants as sections
use Rattle.requirement_document.specs.Entry.{states_data}
use Rattle.requirement_document.specs.Inner.{IsRefusedAt}
use Rattle.requirement_document.proofs.Refusing.{handed_on}
use Rattle.ltl_word.proofs.Parts.{sets_of_none, sets_of_some}
use Rattle.requirement_document.proofs.behaviours.finite.Goals as goal

pub returns-in_err-states-clause-err : goal.returns-in_err-states-clause-err
returns-in_err-states-clause-err c ds taken =
    handed_on (IsRefusedAt sections.Behaviour ds taken (view c.args.entry.now)) c.in_err-states.field-0.0 c.from_residual.result
    (c.in_err-states.ensures.err ds taken) c.from_residual.ensures

pub returns-then-is_empty-clause-err : goal.returns-then-is_empty-clause-err
returns-then-is_empty-clause-err c ds taken =
    let ok = c.in_ok-states.ensures.ok in
    (refl, ok.1 ∙ ap (λ all. Some (states_data all)) (sets_of_none ok.0 c.in_ok-states.states ok.2 (c.is_empty.ensures.0 c.if-is_empty.true)))

pub returns-clause-ok : goal.returns-clause-ok
returns-clause-ok c =
    let ok = c.in_ok-states.ensures.ok in (
      Finite ok.0,
      (
        ok.1,
        c.requires.stem,
        c.requires.again,
      ),
      sets_of_some ok.0 c.in_ok-states.states ok.2 (λ e. true≢false (sym (c.is_empty.ensures.1 e) ∙ c.if-is_empty.false)),
      ok.2,
    )
