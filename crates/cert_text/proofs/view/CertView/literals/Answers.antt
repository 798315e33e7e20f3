use Rattle.std.proofs.Common.{rules, ◌-◌, [], get_or, ap, ◌∙◌}
use Rattle.cert_text.specs.Text.{Certificate}
use Rattle.cert_text.specs.Live.{lines_of}
use Rattle.cert_text.specs.Reading.{literals_in, certificate_in}
use Rattle.cert_text.proofs.Slices.{literals_are}
use Rattle.cert_text.proofs.Views.{line_low, literals_stand}
use Rattle.cert_text.proofs.view.CertView.literals.Goals as goal

pub slice_bounds-new-end : goal.slice_bounds-new-end
slice_bounds-new-end c =
    let bytes = c.self.inside.bytes.now in
    let low = line_low (certificate_in bytes) c.args.self.now c.args.line c.self.view_is c.requires.from_one c.requires.in_text in
    let at = c.index-span.ensures ∙ c.self.invariant.marks.each_span (c.args.line - 1) c.index-span.result.now low in
    let stand = literals_stand bytes (certificate_in bytes) (c.args.line - 1) c.index-span.result.now c.self.invariant.is low at in
    let within = stand.within in
    search (rules, within)

pub new-requires : goal.new-requires
new-requires c =
    let bytes = c.self.inside.bytes.now in
    let low = line_low (certificate_in bytes) c.args.self.now c.args.line c.self.view_is c.requires.from_one c.requires.in_text in
    let at = c.index-span.ensures ∙ c.self.invariant.marks.each_span (c.args.line - 1) c.index-span.result.now low in
    let stand = literals_stand bytes (certificate_in bytes) (c.args.line - 1) c.index-span.result.now c.self.invariant.is low at in
    (get_or (lines_of (certificate_in bytes).parts) (c.args.line - 1) [], stand.fits, stand.slice)

pub returns : goal.returns
returns c =
    let bytes = c.self.inside.bytes.now in
    let low = line_low (certificate_in bytes) c.args.self.now c.args.line c.self.view_is c.requires.from_one c.requires.in_text in
    let at = c.index-span.ensures ∙ c.self.invariant.marks.each_span (c.args.line - 1) c.index-span.result.now low in
    let stand = literals_stand bytes (certificate_in bytes) (c.args.line - 1) c.index-span.result.now c.self.invariant.is low at in
    c.new.ensures ∙ ap literals_in stand.slice ∙ literals_are (get_or (lines_of (certificate_in bytes).parts) (c.args.line - 1) []) stand.fits
    ∙ ap (λ (d : Certificate). get_or (lines_of d.parts) (c.args.line - 1) []) c.self.view_is
