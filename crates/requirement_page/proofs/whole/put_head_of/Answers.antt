use Rattle.std.proofs.Common.{◌++◌, ◌∙◌, ap}
use Rattle.std.proofs.lemmas.Result.{on_ok_weaker}
use Rattle.requirement_page.specs.Page.{head}
use Rattle.requirement_page.proofs.whole.put_head_of.Goals as goal

pub returns : goal.returns
returns c = on_ok_weaker c.put_head.result (λ e. e ∙ ap (λ v. c.args.out.now.items ++ head v) c.verdict_of.ensures) c.put_head.ensures
