use Rattle.toml.specs.View.{view}
use Rattle.requirement_document.specs.declared.fault.Section.TheVariants as sections
use Rattle.requirement_document.specs.Substitution.{names_defined}
use Rattle.requirement_document.specs.Inner.{defined_in, IsRefusedAt}
use Rattle.requirement_document.proofs.Refusing.{handed_on}
use Rattle.requirement_document.proofs.defining.new_letter.Goals as goal

pub returns-in_err-name-clause-err : goal.returns-in_err-name-clause-err
returns-in_err-name-clause-err c =
    let ds = defined_in c.args.definitions.now.entries in
    handed_on (IsRefusedAt sections.Define ds (names_defined ds) (view c.args.entry.now)) c.in_err-name.field-0.0 c.from_residual.result
    (c.in_err-name.ensures.err sections.Define ds (names_defined ds))
    c.from_residual.ensures
