use Rattle.std.proofs.Common.{rules, ◌<◌, length}
use Rattle.cert_text.specs.Items.{item_of, item_line}
use Rattle.cert_text.proofs.ItemTexts.{item_other}
use Rattle.cert_text.proofs.Marking.{marking_start, marking_front, marking_next, marking_end, part_line}
use Rattle.cert_text.proofs.marks.mark_parts.Goals as goal

pub loop-at-init : goal.loop-at-init
loop-at-init c = marking_start c.args.bytes.now c.find-at.result c.args.spans.now.items c.args.ends.now.items c.requires.text c.find-at.ensures.first
    c.requires.no_spans c.requires.no_ends

pub mark_part-requires-clause-part : goal.mark_part-requires-clause-part
mark_part-requires-clause-part c =
    let bytes = c.args.bytes.now in
    let m = c.loop-at.invariant in
    let f = marking_front bytes c.loop-at.at c.loop-at.spans.items c.loop-at.ends.items c.requires.text m c.loop-at-test.true in
    let end = c.find-end.ensures.first f.before (item_line (item_of f.part)) f.more (item_other (item_of f.part) f.fits) f.spelled f.place in
    record { part = f.part; fits = f.fits; spelled = part_line bytes c.loop-at.at c.find-end.result m.past m.left f end }

pub loop-at-preserved : goal.loop-at-preserved
loop-at-preserved c =
    let bytes = c.args.bytes.now in
    let m = c.loop-at.invariant in
    let f = marking_front bytes c.loop-at.at c.loop-at.spans.items c.loop-at.ends.items c.requires.text m c.loop-at-test.true in
    let end = c.find-end.ensures.first f.before (item_line (item_of f.part)) f.more (item_other (item_of f.part) f.fits) f.spelled f.place in
    let marked = c.in_ok-mark_part.ensures f.part f.fits (part_line bytes c.loop-at.at c.find-end.result m.past m.left f end) in
    marking_next bytes c.loop-at.at c.find-end.result c.loop-at.spans.items c.mark_part.new.spans.items c.loop-at.ends.items c.mark_part.new.ends.items
    c.requires.text (let few : length bytes < 18446744073709551616 = search rules in few) m f end marked

pub returns-clause-close : goal.returns-clause-close
returns-clause-close c =
    (marking_end c.args.bytes.now c.loop-at.at c.loop-at.spans.items c.loop-at.ends.items c.requires.text c.loop-at.invariant c.loop-at-test.false).0

pub returns-clause-marks : goal.returns-clause-marks
returns-clause-marks c =
    (marking_end c.args.bytes.now c.loop-at.at c.loop-at.spans.items c.loop-at.ends.items c.requires.text c.loop-at.invariant c.loop-at-test.false).1
