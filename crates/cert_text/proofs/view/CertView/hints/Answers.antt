use Rattle.std.proofs.Common.{rules, ◌-◌, [], get_or, ap, ◌∙◌, arith}
use Rattle.cert_text.specs.Text.{Certificate}
use Rattle.cert_text.specs.Live.{hints_of}
use Rattle.cert_text.specs.Reading.{hints_in, certificate_in}
use Rattle.cert_text.specs.declared.marks.Span.{Span}
use Rattle.cert_text.proofs.Slices.{hints_are}
use Rattle.cert_text.proofs.Views.{line_low, hints_within, hints_slice}
use Rattle.cert_text.proofs.view.CertView.hints.Goals as goal

pub overflow_add-start : goal.overflow_add-start
overflow_add-start c =
    let bytes = c.self.inside.bytes.now in
    let low = line_low (certificate_in bytes) c.args.self.now c.args.line c.self.view_is c.requires.from_one c.requires.in_text in
    let at = c.index-span.ensures ∙ c.self.invariant.marks.each_span (c.args.line - 1) c.index-span.result.now low in
    let within = hints_within bytes (certificate_in bytes) (c.args.line - 1) c.self.invariant.is low in
    omega (arith, within, ap (λ (s : Span). s.end) at, c.self.told)

pub find-end-requires : goal.find-end-requires
find-end-requires c =
    let bytes = c.self.inside.bytes.now in
    let low = line_low (certificate_in bytes) c.args.self.now c.args.line c.self.view_is c.requires.from_one c.requires.in_text in
    let at = c.index-span.ensures ∙ c.self.invariant.marks.each_span (c.args.line - 1) c.index-span.result.now low in
    let within = hints_within bytes (certificate_in bytes) (c.args.line - 1) c.self.invariant.is low in
    omega (arith, within, ap (λ (s : Span). s.end) at)

pub slice_bounds-new-count : goal.slice_bounds-new-count
slice_bounds-new-count c =
    let bytes = c.self.inside.bytes.now in
    let low = line_low (certificate_in bytes) c.args.self.now c.args.line c.self.view_is c.requires.from_one c.requires.in_text in
    let at = c.index-span.ensures ∙ c.self.invariant.marks.each_span (c.args.line - 1) c.index-span.result.now low in
    (hints_slice bytes (certificate_in bytes) (c.args.line - 1)
    c.index-span.result.now c.find-end.result c.self.invariant.is low at c.find-end.ensures.first).forward

pub slice_bounds-new-start : goal.slice_bounds-new-start
slice_bounds-new-start c =
    let bytes = c.self.inside.bytes.now in
    let low = line_low (certificate_in bytes) c.args.self.now c.args.line c.self.view_is c.requires.from_one c.requires.in_text in
    let at = c.index-span.ensures ∙ c.self.invariant.marks.each_span (c.args.line - 1) c.index-span.result.now low in
    let forward = (hints_slice bytes (certificate_in bytes) (c.args.line - 1)
    c.index-span.result.now c.find-end.result c.self.invariant.is low at c.find-end.ensures.first).forward in
    search (rules, forward)

pub new-requires : goal.new-requires
new-requires c =
    let bytes = c.self.inside.bytes.now in
    let low = line_low (certificate_in bytes) c.args.self.now c.args.line c.self.view_is c.requires.from_one c.requires.in_text in
    let at = c.index-span.ensures ∙ c.self.invariant.marks.each_span (c.args.line - 1) c.index-span.result.now low in
    let found = hints_slice bytes (certificate_in bytes) (c.args.line - 1)
    c.index-span.result.now c.find-end.result c.self.invariant.is low at c.find-end.ensures.first in
    (get_or (hints_of (certificate_in bytes).parts) (c.args.line - 1) [], found.fits, found.slice)

pub returns : goal.returns
returns c =
    let bytes = c.self.inside.bytes.now in
    let low = line_low (certificate_in bytes) c.args.self.now c.args.line c.self.view_is c.requires.from_one c.requires.in_text in
    let at = c.index-span.ensures ∙ c.self.invariant.marks.each_span (c.args.line - 1) c.index-span.result.now low in
    let found = hints_slice bytes (certificate_in bytes) (c.args.line - 1)
    c.index-span.result.now c.find-end.result c.self.invariant.is low at c.find-end.ensures.first in
    c.new.ensures ∙ ap hints_in found.slice ∙ hints_are (get_or (hints_of (certificate_in bytes).parts) (c.args.line - 1) []) found.fits
    ∙ ap (λ (d : Certificate). get_or (hints_of d.parts) (c.args.line - 1) []) c.self.view_is
