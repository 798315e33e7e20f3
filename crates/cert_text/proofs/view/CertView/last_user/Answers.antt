use Rattle.std.proofs.Common.{◌-◌, ap, sym, ◌∙◌, arith}
use Rattle.cert_text.specs.Text.{Certificate}
use Rattle.cert_text.specs.Live.{last_user}
use Rattle.cert_text.specs.Reading.{certificate_in}
use Rattle.cert_text.specs.declared.glance.Form.{Form}
use Rattle.cert_text.proofs.Views.{line_low, count_fits, end_open, end_shut, user_last, user_end}
use Rattle.cert_text.proofs.view.CertView.last_user.Goals as goal

pub returns-then-end : goal.returns-then-end
returns-then-end c =
    let bytes = c.self.inside.bytes.now in
    let d = certificate_in bytes in
    let low = line_low d c.args.self.now c.args.line c.self.view_is c.requires.from_one c.requires.in_text in
    let at = c.index-end.ensures ∙ c.self.invariant.marks.each_end (c.args.line - 1) c.index-end.result.now low in
    let none = end_open d.parts (c.args.line - 1) (let few = count_fits bytes d c.self.invariant.is in omega (arith, few, c.self.told.0)) low
    (sym at ∙ c.if-end.true) in
    ap (λ (f : Form). f.lines) c.self.invariant.says ∙ user_last d.parts (c.args.line - 1) low none
    ∙ ap (λ (x : Certificate). last_user x.parts (c.args.line - 1)) c.self.view_is

pub returns-else-end : goal.returns-else-end
returns-else-end c =
    let bytes = c.self.inside.bytes.now in
    let d = certificate_in bytes in
    let low = line_low d c.args.self.now c.args.line c.self.view_is c.requires.from_one c.requires.in_text in
    let at = c.index-end.ensures ∙ c.self.invariant.marks.each_end (c.args.line - 1) c.index-end.result.now low in
    let gone = end_shut d.parts (c.args.line - 1) (λ e. c.if-end.false (at ∙ e)) in
    at ∙ user_end d.parts (c.args.line - 1) gone ∙ ap (λ (x : Certificate). last_user x.parts (c.args.line - 1)) c.self.view_is
