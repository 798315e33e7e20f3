use Rattle.std.proofs.Common.{sym, ◌∙◌, ap, subst}
use Rattle.cert_text.specs.Text.{IsTextOf}
use Rattle.cert_text.specs.Shape.{form_of}
use Rattle.cert_text.proofs.Slices.{in_text, numbers_are}
use Rattle.cert_text.proofs.Marking.{whole_close_stands}
use Rattle.cert_text.specs.Reading.{certificate_in, numbers_in}
use Rattle.cert_text.proofs.view.CertView.with_form.Goals as goal

pub mark_parts-requires-clause-text : goal.mark_parts-requires-clause-text
mark_parts-requires-clause-text c =
    let is = c.requires in
    subst (IsTextOf c.args.bytes.now) (sym (in_text c.args.bytes.now is.0 is.1)) is.1

pub targets_at-requires-clause-within : goal.targets_at-requires-clause-within
targets_at-requires-clause-within c =
    let bytes = c.args.bytes.now in
    let is = c.requires in
    (whole_close_stands bytes c.in_ok-close.close (subst (IsTextOf bytes) (sym (in_text bytes is.0 is.1)) is.1) c.in_ok-close.ensures.close).within

pub targets_at-requires-clause-numbers : goal.targets_at-requires-clause-numbers
targets_at-requires-clause-numbers c =
    let bytes = c.args.bytes.now in
    let is = c.requires in
    let stand = whole_close_stands bytes c.in_ok-close.close (subst (IsTextOf bytes) (sym (in_text bytes is.0 is.1)) is.1) c.in_ok-close.ensures.close in
    ((certificate_in bytes).targets, stand.fits, stand.slice)

pub invariant_of-result : goal.invariant_of-result
invariant_of-result c =
    let bytes = c.args.bytes.now in
    let is = c.requires in
    let same = sym (in_text bytes is.0 is.1) in
    let text = subst (IsTextOf bytes) same is.1 in
    let stand = whole_close_stands bytes c.in_ok-close.close text c.in_ok-close.ensures.close in record {
      is = text;
      says = is.2 ∙ ap form_of same;
      marks = c.in_ok-close.ensures.marks;
      close = c.in_ok-targets.ensures ∙ ap numbers_in stand.slice ∙ numbers_are (certificate_in bytes).targets stand.fits;
    }

pub returns : goal.returns
returns c =
    let is = c.requires in
    subst (IsTextOf c.args.bytes.now) (sym (in_text c.args.bytes.now is.0 is.1)) is.1
