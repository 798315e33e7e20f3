use Rattle.std.proofs.Common.{map, string_bytes}
use Rattle.toml.specs.View.{view}
use Rattle.requirement_document.specs.Inner.{IsRefusedAt}
use Rattle.requirement_document.proofs.Refusing.{handed_on}
use Rattle.requirement_document.proofs.names.new_name.Goals as goal

pub returns-in_err-name-clause-err : goal.returns-in_err-name-clause-err
returns-in_err-name-clause-err c s ds =
    let taken = map string_bytes c.args.names.now.keys in
    handed_on (IsRefusedAt s ds taken (view c.args.entry.now)) c.in_err-name.field-0.0 c.from_residual.result (c.in_err-name.ensures.err s ds taken)
    c.from_residual.ensures
