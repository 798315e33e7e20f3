use Rattle.std.proofs.Common.{rules, ◌≡◌, Err, refl, ap, subst}
use Rattle.ltl_syntax.specs.Table.{tree_at}
use Rattle.enc_layout.specs.Letters.{Fits}
use Rattle.enc_layout.specs.Clauses.{layout_of}
use Rattle.cert_text.specs.Text.{IsFormFault}
use Rattle.cert_check.specs.Answer.{answer_of}
use Rattle.cert_check.proofs.Judging.{judged_bytes}
use Rattle.cert_check.proofs.checking.check_together.Goals as goal

pub returns-in-Err-Form-clause-form : goal.returns-in-Err-Form-clause-form
returns-in-Err-Form-clause-form g c byte is =
    let same : c.in-Err-Form.byte ≡ byte = cc in
    subst (IsFormFault c.args.bytes.now) same (c.in-Err-Form.ensures.form c.in-Err-Form.byte (ap (λ e. Err e) c.in-Err-Form.field-0-is))

pub returns-clause-verdict : goal.returns-clause-verdict
returns-clause-verdict g c =
    let same_kind : c.in-Ok.view.kind ≡ c.args.kind = search rules in
    let fits : Fits (layout_of c.in_ok-closure.closure) c.in-Ok.view.depth = search rules in
    judged_bytes (tree_at c.args.table.now c.args.root) c.args.kind c.args.bytes.now c.in-Ok.view c.in_ok-closure.closure.formula c.in_ok-closure.closure.kind
    c.in-Ok.view.depth c.in-Ok.ensures.ok same_kind refl c.in_ok-closure.ensures.formula c.in_ok-closure.ensures.kind
    (answer_of c.in_ok-judge.field-0) fits c.in_ok-judge.ensures
