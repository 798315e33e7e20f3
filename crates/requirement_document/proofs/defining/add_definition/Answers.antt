use Rattle.toml.specs.View.{view}
use Rattle.requirement_document.specs.declared.fault.Section.TheVariants as sections
use Rattle.requirement_document.specs.Substitution.{names_defined}
use Rattle.requirement_document.specs.Inner.{defined_in, IsRefusedAt}
use Rattle.requirement_document.proofs.Refusing.{handed_on}
use Rattle.requirement_document.proofs.defining.add_definition.Goals as goal

pub returns-in_err-check_keys-clause-err : goal.returns-in_err-check_keys-clause-err
returns-in_err-check_keys-clause-err c =
    let ds = defined_in c.args.definitions.now.entries in
    let taken = names_defined ds in
    let refused = c.from_residual in
    handed_on (IsRefusedAt sections.Define ds taken (view c.args.entry.now)) c.in_err-check_keys.field-0.0 refused.result
    (c.in_err-check_keys.ensures.err ds taken) refused.ensures

pub returns-in_err-_sentence-clause-err : goal.returns-in_err-_sentence-clause-err
returns-in_err-_sentence-clause-err c =
    let ds = defined_in c.args.definitions.now.entries in
    let taken = names_defined ds in
    let refused = c.from_residual-in_err-_sentence in
    handed_on (IsRefusedAt sections.Define ds taken (view c.args.entry.now)) c.in_err-_sentence.field-0.0 refused.result
    (c.in_err-_sentence.ensures.err sections.Define ds taken) refused.ensures

pub returns-in_err-text-clause-err : goal.returns-in_err-text-clause-err
returns-in_err-text-clause-err c =
    let ds = defined_in c.args.definitions.now.entries in
    let taken = names_defined ds in
    let refused = c.from_residual-in_err-text in
    handed_on (IsRefusedAt sections.Define ds taken (view c.args.entry.now)) c.in_err-text.field-0.0 refused.result
    (c.in_err-text.ensures.err sections.Define ds taken tt) refused.ensures
