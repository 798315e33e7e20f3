use Rattle.std.proofs.Common.{map, string_bytes, subst}
use Rattle.toml.specs.View.{view}
use Rattle.requirement_document.specs.Document.{section_of}
use Rattle.requirement_document.specs.Inner.{defined_in, IsRefusedAt}
use Rattle.requirement_document.proofs.Refusing.{handed_on, role_has_formulas}
use Rattle.requirement_document.proofs.items.item.Goals as goal

pub returns-in_err-check_keys-clause-err : goal.returns-in_err-check_keys-clause-err
returns-in_err-check_keys-clause-err c =
    let ds = defined_in c.args.definitions.now.entries in
    let taken = map string_bytes c.args.names.now.keys in
    let section = section_of c.args.role in
    let e = c.in_err-check_keys.field-0.0 in
    let wrong = subst (λ s. IsRefusedAt s ds taken (view c.args.entry.now) e) c.section_of.ensures (c.in_err-check_keys.ensures.err ds taken) in
    let refused = c.from_residual in
    handed_on (IsRefusedAt section ds taken (view c.args.entry.now)) c.in_err-check_keys.field-0.0 refused.result wrong refused.ensures

pub returns-in_err-name-clause-err : goal.returns-in_err-name-clause-err
returns-in_err-name-clause-err c =
    let ds = defined_in c.args.definitions.now.entries in
    let taken = map string_bytes c.args.names.now.keys in
    let section = section_of c.args.role in
    let refused = c.from_residual-in_err-name in
    handed_on (IsRefusedAt section ds taken (view c.args.entry.now)) c.in_err-name.field-0.0 refused.result
    (c.in_err-name.ensures.err section ds) refused.ensures

pub returns-in_err-sentence-clause-err : goal.returns-in_err-sentence-clause-err
returns-in_err-sentence-clause-err c =
    let ds = defined_in c.args.definitions.now.entries in
    let taken = map string_bytes c.args.names.now.keys in
    let section = section_of c.args.role in
    let refused = c.from_residual-in_err-sentence in
    handed_on (IsRefusedAt section ds taken (view c.args.entry.now)) c.in_err-sentence.field-0.0 refused.result
    (c.in_err-sentence.ensures.err section ds taken) refused.ensures

pub returns-in_err-text-clause-err : goal.returns-in_err-text-clause-err
returns-in_err-text-clause-err c =
    let ds = defined_in c.args.definitions.now.entries in
    let taken = map string_bytes c.args.names.now.keys in
    let section = section_of c.args.role in
    let refused = c.from_residual-in_err-text in
    handed_on (IsRefusedAt section ds taken (view c.args.entry.now)) c.in_err-text.field-0.0 refused.result
    (c.in_err-text.ensures.err section ds taken (role_has_formulas c.args.role)) refused.ensures
