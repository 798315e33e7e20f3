use Rattle.std.proofs.Common.{◌++◌, ◌∙◌, ap}
use Rattle.std.proofs.lemmas.Result.{on_ok_weaker}
use Rattle.requirement_report.specs.Pictures.{picture_with}
use Rattle.requirement_report.proofs.pictures.put_picture.Goals as goal

pub returns : goal.returns
returns c =
    on_ok_weaker c.put_rows.result
    (λ e. e ∙ ap (λ ls. c.args.out.now.items ++ picture_with c.args.trace.now ls) (c.names.ensures.names ∙ c.in_ok-letters.ensures))
    c.put_rows.ensures
