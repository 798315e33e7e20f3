use Rattle.std.proofs.Common.{subst}
use Rattle.ltl_syntax.specs.Table.{tree_at}
use Rattle.claim_check.specs.Data.{certificate_in}
use Rattle.claim_check.specs.Reasons.{IsVerdict}
use Rattle.claim_text.specs.Text.{IsFault}
use Rattle.report.specs.declared.fault.Fault.TheVariants as faults
use Rattle.refute_top.specs.Answer.{refused, checked}
use Rattle.refute_top.specs.Checking.{IsChecked, unread, judged}
use Rattle.refute_top.proofs.Showing.{shown}
use Rattle.refute_top.proofs.check.judge.Goals as goal

pub returns-in-Err-Form : goal.returns-in-Err-Form
returns-in-Err-Form c =
    let byte = c.in-Err-Form.byte in
    let fault : IsFault c.args.text.now byte = rw c.in-Err-Form.field-0-is at c.in-Err-Form.ensures in
    shown (IsChecked c.args.kind (tree_at c.args.table.now c.args.root) c.args.text.now) (refused (faults.Certificate byte)) c.refusal.result
    (unread byte fault) (rw c.in-Err-Form.byte-is at c.refusal.ensures)

pub returns : goal.returns
returns c =
    let f = tree_at c.args.table.now c.args.root in
    let certificate = certificate_in c.in-Ok.certificate in
    let verdict = c.in_ok-verdict.verdict in
    let is : IsVerdict f c.args.kind certificate verdict =
    subst (λ x. IsVerdict x c.args.kind certificate verdict) c.in_ok-closure.ensures.formula c.in_ok-verdict.ensures.verdict in
    shown (IsChecked c.args.kind f c.args.text.now) (checked verdict) c.checked.result (judged certificate verdict c.in-Ok.ensures is) c.checked.ensures
