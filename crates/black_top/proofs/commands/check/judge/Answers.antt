use Rattle.std.proofs.Common.{refl}
use Rattle.ltl_syntax.specs.Table.{tree_at}
use Rattle.cert_check.specs.Answer.{FormFault, TooManyLetters}
use Rattle.report.specs.declared.fault.Fault.TheVariants as faults
use Rattle.black_top.specs.Answer.{refused}
use Rattle.black_top.specs.Check.{IsChecked}
use Rattle.black_top.proofs.Showing.{shown}
use Rattle.black_top.proofs.commands.check.judge.Goals as goal

pub returns-in-Err-Form : goal.returns-in-Err-Form
returns-in-Err-Form g c =
    let byte = c.in-Err-Form.byte in
    let is = c.check.ensures.form byte (let a = c.in-Err-Form.is in let b = c.in-Err-Form.field-0-is in cc) in
    shown (IsChecked c.args.kind (tree_at c.args.table.now c.args.root) c.args.text.now) (refused (faults.Certificate byte)) c.refusal.result
    (record { found = FormFault byte; is = is; shown = refl }) c.refusal.ensures

pub returns-in-Err-Letters : goal.returns-in-Err-Letters
returns-in-Err-Letters g c =
    let depth = c.in-Err-Letters.depth in
    let is = c.check.ensures.letters depth (let a = c.in-Err-Letters.is in let b = c.in-Err-Letters.field-0-is in cc) in
    shown (IsChecked c.args.kind (tree_at c.args.table.now c.args.root) c.args.text.now) (refused (faults.Letters depth)) c.refusal-in-Err-Letters.result
    (record { found = TooManyLetters depth; is = is; shown = refl })
    c.refusal-in-Err-Letters.ensures
