use Rattle.std.proofs.Common.{◌∙◌, Err, ap}
use Rattle.std.proofs.lemmas.Result.{on_ok_weaker}
use Rattle.requirement_report.proofs.Gridded.{shown_rows, no_rows}
use Rattle.requirement_report.proofs.pictures.put_rows.Goals as goal

pub returns-in_ok-lines-in-Ok : goal.returns-in_ok-lines-in-Ok
returns-in_ok-lines-in-Ok c =
    on_ok_weaker c.put_indented.result
    (shown_rows c.args.trace.now c.args.letters.now c.in-Ok.grid c.args.out.now.items c.put_indented.new.out.items c.deref.result.now
    c.in-Ok.ensures.grid c.in-Ok.ensures.fits (c.deref.ensures.value ∙ c.in_ok-lines-in-Ok.ensures))
    c.put_indented.ensures

pub returns-in-Err-TooLarge : goal.returns-in-Err-TooLarge
returns-in-Err-TooLarge c =
    on_ok_weaker c.put_inner.result
    (no_rows c.args.trace.now c.args.letters.now c.args.out.now.items c.put_inner.new.out.items
    (c.of.ensures.too_large (c.in-Err-TooLarge.is ∙ ap Err c.in-Err-TooLarge.field-0-is))) c.put_inner.ensures
