use Rattle.std.proofs.Common.{[], ◌∷◌}
use Rattle.cert_check.proofs.Walking.{kept_here, kept_none}
use Rattle.cert_check.proofs.alone.is_good.Goals as goal

pub returns-in-Some : goal.returns-in-Some
returns-in-Some c =
    kept_here c.args.closure.now.formula c.args.closure.now.kind c.args.depth c.args.checker.now.live c.args.index c.args.target c.in-Some.literals
    (c.allowed.result.0 ∷ c.allowed.result.1 ∷ []) c.are_among.result
    c.in-Some.ensures c.allowed.ensures c.are_among.ensures

pub returns-in-None : goal.returns-in-None
returns-in-None c =
    kept_none c.args.closure.now.formula c.args.closure.now.kind c.args.depth c.args.checker.now.live c.args.index c.args.target c.in-None.ensures
