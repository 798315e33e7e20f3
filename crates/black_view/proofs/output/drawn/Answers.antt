use Rattle.std.proofs.Common.{◌∙◌, ap, Err}
use Rattle.std.proofs.lemmas.Result.{IfOk-weaker}
use Rattle.black_view.proofs.Printing.{drawn_as, large_as}
use Rattle.black_view.proofs.output.drawn.Goals as goal

pub returns-in-Ok : goal.returns-in-Ok
returns-in-Ok c = IfOk-weaker c.picture.result _ _
    (λ out h. drawn_as c.args.request.now c.args.lines.now c.args.trace.now _ out.status out.text.items c.in-Ok.ensures.grid h) c.picture.ensures

pub returns-in-Err-TooLarge : goal.returns-in-Err-TooLarge
returns-in-Err-TooLarge c =
    IfOk-weaker c.shown.result _ _
    (λ out h. large_as c.args.request.now c.args.lines.now c.args.trace.now out.status out.text.items
    (c.grid_of.ensures.too_large (c.in-Err-TooLarge.is ∙ ap Err c.in-Err-TooLarge.field-0-is)) h) c.shown.ensures
