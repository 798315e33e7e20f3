use Rattle.std.proofs.Common.{map, string_bytes}
use Rattle.toml.specs.View.{view}
use Rattle.requirement_document.specs.declared.fault.Section.TheVariants as sections
use Rattle.requirement_document.specs.Inner.{IsRefusedAt}
use Rattle.requirement_document.proofs.Refusing.{handed_on}
use Rattle.requirement_document.proofs.behaviours.behaviour.Goals as goal

pub returns-in_err-check_keys-clause-err : goal.returns-in_err-check_keys-clause-err
returns-in_err-check_keys-clause-err c ds =
    let taken = map string_bytes c.args.names.now.keys in
    let refused = c.from_residual in
    handed_on (IsRefusedAt sections.Behaviour ds taken (view c.args.entry.now)) c.in_err-check_keys.field-0.0 refused.result
    (c.in_err-check_keys.ensures.err ds taken) refused.ensures

pub returns-in_err-name-clause-err : goal.returns-in_err-name-clause-err
returns-in_err-name-clause-err c ds =
    let taken = map string_bytes c.args.names.now.keys in
    let refused = c.from_residual-in_err-name in
    handed_on (IsRefusedAt sections.Behaviour ds taken (view c.args.entry.now)) c.in_err-name.field-0.0 refused.result
    (c.in_err-name.ensures.err sections.Behaviour ds) refused.ensures

pub returns-in_err-sentence-clause-err : goal.returns-in_err-sentence-clause-err
returns-in_err-sentence-clause-err c ds =
    let taken = map string_bytes c.args.names.now.keys in
    let refused = c.from_residual-in_err-sentence in
    handed_on (IsRefusedAt sections.Behaviour ds taken (view c.args.entry.now)) c.in_err-sentence.field-0.0 refused.result
    (c.in_err-sentence.ensures.err sections.Behaviour ds taken) refused.ensures

pub returns-in_err-trace-clause-err : goal.returns-in_err-trace-clause-err
returns-in_err-trace-clause-err c ds =
    let taken = map string_bytes c.args.names.now.keys in
    let refused = c.from_residual-in_err-trace in
    handed_on (IsRefusedAt sections.Behaviour ds taken (view c.args.entry.now)) c.in_err-trace.field-0.0 refused.result
    (c.in_err-trace.ensures.err ds taken) refused.ensures
