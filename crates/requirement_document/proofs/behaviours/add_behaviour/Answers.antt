use Rattle.std.proofs.Common.{map, string_bytes}
use Rattle.toml.specs.View.{view}
use Rattle.requirement_document.specs.declared.fault.Section.TheVariants as sections
use Rattle.requirement_document.specs.Inner.{IsRefusedAt}
use Rattle.requirement_document.proofs.Refusing.{handed_on}
use Rattle.requirement_document.proofs.behaviours.add_behaviour.Goals as goal

pub returns-in_err-behaviour-clause-err : goal.returns-in_err-behaviour-clause-err
returns-in_err-behaviour-clause-err c ds =
    let taken = map string_bytes c.args.names.now.keys in
    let refused = c.from_residual in
    handed_on (IsRefusedAt sections.Behaviour ds taken (view c.args.entry.now)) c.in_err-behaviour.field-0.0 refused.result
    (c.in_err-behaviour.ensures.err ds) refused.ensures
