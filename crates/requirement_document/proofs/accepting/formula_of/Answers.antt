use Rattle.std.proofs.Common.{subst}
use Rattle.requirement_document.specs.Inner.{defined_in, IsRefusedText}
use Rattle.requirement_document.proofs.Refusing.{handed_on}
use Rattle.requirement_document.proofs.accepting.formula_of.Goals as goal

pub returns-in_err-own-clause-err : goal.returns-in_err-own-clause-err
returns-in_err-own-clause-err c =
    let ds = defined_in c.args.definitions.now.entries in
    let e = c.in_err-own.field-0.0 in
    handed_on (IsRefusedText ds c.args.text.now) e c.from_residual.result
    (subst (λ t. IsRefusedText ds t e) c.as_bytes.ensures.value (c.in_err-own.ensures.err ds)) c.from_residual.ensures
