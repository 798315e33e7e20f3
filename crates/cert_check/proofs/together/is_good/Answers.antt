use Rattle.std.proofs.Common.{IsTrue, [], ◌∷◌, arith}
use Rattle.cert_check.proofs.Judging.{seen_target}
use Rattle.cert_check.proofs.together.is_good.Goals as goal

pub returns : goal.returns
returns c =
    let live : IsTrue c.live_at_close.result = search in
    seen_target c.args.closure.now.formula c.args.closure.now.kind c.depth.result c.args.view.now c.args.index c.target-line.result c.literals.result
    (c.allowed.result.0 ∷ c.allowed.result.1 ∷ []) c.are_among.result
    c.target-line.ensures (omega (arith, c.if-line-lt1.false)) (c.live_at_close.ensures.0 live)
    c.literals.ensures c.requires.kind c.depth.ensures c.allowed.ensures c.are_among.ensures
