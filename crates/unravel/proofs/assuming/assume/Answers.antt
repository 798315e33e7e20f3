use Rattle.enc_layout.specs.Letters.{Here}
use Rattle.unravel.proofs.Asking.{of_layout}
use Rattle.unravel.proofs.Earlier.{one_more}
use Rattle.unravel.proofs.assuming.assume.Goals as goal

pub returns : goal.returns
returns c =
    let f = c.args.closure.now.formula in
    let kind = c.args.closure.now.kind in
    let k = c.args.depth in
    let here = c.positive-here.result in
    let is = of_layout c.of.result c.args.closure.now (Here k) here c.of.ensures.layout c.positive-here.ensures in
    one_more f kind k c.args.states.now.items c.push.new.self.items here c.requires.states is c.in_ok-push.ensures.items
