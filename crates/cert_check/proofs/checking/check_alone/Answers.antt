use Rattle.std.proofs.Common.{rules, ◌≡◌, sym, ap, subst, ◌∙◌}
use Rattle.ltl_syntax.specs.Table.{tree_at}
use Rattle.enc_layout.specs.Letters.{Fits}
use Rattle.enc_layout.specs.Clauses.{layout_of}
use Rattle.cert_text.specs.Text.{IsTextOf}
use Rattle.cert_text.specs.declared.glance.Form.{Form}
use Rattle.cert_text.specs.Shape.{form_of}
use Rattle.cert_text.specs.Reading.{certificate_in}
use Rattle.cert_text.proofs.Slices.{in_text}
use Rattle.cert_check.specs.Answer.{answer_of}
use Rattle.cert_check.proofs.Judging.{judged_bytes}
use Rattle.cert_check.proofs.checking.check_alone.Goals as goal

pub judge-requires-clause-text : goal.judge-requires-clause-text
judge-requires-clause-text g c = let e = c.in-Ok.ensures in subst (IsTextOf c.args.bytes.now) (sym (in_text c.args.bytes.now e.0 e.1)) e.1

pub judge-requires-clause-says : goal.judge-requires-clause-says
judge-requires-clause-says g c = let e = c.in-Ok.ensures in e.2 ∙ ap form_of (sym (in_text c.args.bytes.now e.0 e.1))

pub returns-clause-verdict : goal.returns-clause-verdict
returns-clause-verdict g c =
    let e = c.in-Ok.ensures in
    let own : certificate_in c.args.bytes.now ≡ e.0 = in_text c.args.bytes.now e.0 e.1 in
    let says : c.in-Ok.form ≡ form_of (certificate_in c.args.bytes.now) = e.2 ∙ ap form_of (sym own) in
    let same_kind : c.in-Ok.form.kind ≡ c.args.kind = search rules in
    let fits : Fits (layout_of c.in_ok-closure.closure) c.in-Ok.form.depth = search rules in
    judged_bytes (tree_at c.args.table.now c.args.root) c.args.kind c.args.bytes.now (certificate_in c.args.bytes.now)
    c.in_ok-closure.closure.formula c.in_ok-closure.closure.kind c.in-Ok.form.depth
    (subst (IsTextOf c.args.bytes.now) (sym own) e.1) (sym (ap (λ (x : Form). x.kind) says) ∙ same_kind) (ap (λ (x : Form). x.depth) says)
    c.in_ok-closure.ensures.formula c.in_ok-closure.ensures.kind
    (answer_of c.in_ok-judge.field-0) fits c.in_ok-judge.ensures
