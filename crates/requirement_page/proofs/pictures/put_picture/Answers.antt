use Rattle.std.proofs.Common.{◌≡◌, ◌∙◌, Err, ap, arith}
use Rattle.std.proofs.lemmas.Result.{on_ok_weaker}
use Rattle.requirement_report.specs.Pictures.{letters_in}
use Rattle.requirement_page.proofs.Drawn.{shown_picture, no_picture}
use Rattle.requirement_page.proofs.pictures.put_picture.Goals as goal

pub returns-in-Ok : goal.returns-in-Ok
returns-in-Ok c =
    let letters = c.names.result.now in
    let l : letters ≡ letters_in c.args.trace.now = grind (arith, c.names.ensures.names, c.letters-2.view_is, c.in_ok-letters.ensures) in
    on_ok_weaker c.put_framed.result
    (shown_picture c.args.trace.now letters c.in-Ok.grid c.args.out.now.items c.put_framed.new.out.items c.deref.result.now l
    c.in-Ok.ensures.grid c.in-Ok.ensures.fits (c.deref.ensures.value ∙ c.in_ok-drawing-in-Ok.ensures))
    c.put_framed.ensures

pub returns-in-Err-TooLarge : goal.returns-in-Err-TooLarge
returns-in-Err-TooLarge c =
    let letters = c.names.result.now in
    let l : letters ≡ letters_in c.args.trace.now = grind (arith, c.names.ensures.names, c.letters-2.view_is, c.in_ok-letters.ensures) in
    on_ok_weaker c.put_paragraph.result
    (no_picture c.args.trace.now letters c.args.out.now.items c.put_paragraph.new.out.items l
    (c.of.ensures.too_large (c.in-Err-TooLarge.is ∙ ap Err c.in-Err-TooLarge.field-0-is))) c.put_paragraph.ensures
