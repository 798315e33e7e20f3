use Rattle.std.proofs.Common.{rules, ap, sym, ◌∙◌}
use Rattle.cert_text.specs.Reading.{numbers_in}
use Rattle.cert_text.specs.declared.item.CertItem.TheVariants as items
use Rattle.cert_text.proofs.Slices.{numbers_are}
use Rattle.cert_text.proofs.ItemLines.{close_line, delete_line}
use Rattle.cert_text.proofs.item.item_in.Goals as goal

-- the close
pub slice_bounds-new-count : goal.slice_bounds-new-count
slice_bounds-new-count c = (close_line c.args.line.now c.requires.item c.requires.fits c.requires.spelled c.if-line-eq99.true).long

pub slice_bounds-new-start : goal.slice_bounds-new-start
slice_bounds-new-start c =
    let low = (close_line c.args.line.now c.requires.item c.requires.fits c.requires.spelled c.if-line-eq99.true).long in
    search (rules, low)

pub new-targets-requires : goal.new-targets-requires
new-targets-requires c =
    let has = close_line c.args.line.now c.requires.item c.requires.fits c.requires.spelled c.if-line-eq99.true in
    (has.numbers, has.fits, has.slice)

pub returns-then-line-eq99 : goal.returns-then-line-eq99
returns-then-line-eq99 c item fits is =
    let has = close_line c.args.line.now item fits is c.if-line-eq99.true in
    ap items.Close (c.new-targets.ensures ∙ ap numbers_in has.slice ∙ numbers_are has.numbers has.fits) ∙ sym has.is

-- a delete
pub new-lines-requires : goal.new-lines-requires
new-lines-requires c =
    let has = delete_line c.args.line.now c.requires.item c.requires.fits c.requires.spelled c.if-line-eq100.true in
    (has.numbers, has.fits, has.slice)

pub returns-then-line-eq100 : goal.returns-then-line-eq100
returns-then-line-eq100 c item fits is =
    let has = delete_line c.args.line.now item fits is c.if-line-eq100.true in
    ap items.Delete (c.new-lines.ensures ∙ ap numbers_in has.slice ∙ numbers_are has.numbers has.fits) ∙ sym has.is
