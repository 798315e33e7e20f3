use Rattle.std.proofs.Common.{◌-◌, ap, ◌∙◌}
use Rattle.cert_text.specs.Text.{Certificate}
use Rattle.cert_text.specs.Reading.{certificate_in, line_start}
use Rattle.cert_text.specs.declared.marks.Span.{Span}
use Rattle.cert_text.proofs.Views.{line_low}
use Rattle.cert_text.proofs.view.CertView.place.Goals as goal

pub returns : goal.returns
returns c =
    let bytes = c.self.inside.bytes.now in
    let low = line_low (certificate_in bytes) c.args.self.now c.args.line c.self.view_is c.requires.from_one c.requires.in_text in
    let at = c.index.ensures ∙ c.self.invariant.marks.each_span (c.args.line - 1) c.index.result.now low in
    ap (λ (s : Span). s.start) at ∙ ap (λ (d : Certificate). line_start d (c.args.line - 1)) c.self.view_is
