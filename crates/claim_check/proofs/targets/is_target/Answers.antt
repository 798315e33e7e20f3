use Rattle.std.proofs.Common.{◌++◌, arith, subst, ◌↔◌, IsTrue, All, Contains}
use Rattle.claim_check.proofs.Naming.{names_target}
use Rattle.claim_check.proofs.targets.is_target.Goals as goal

pub returns : goal.returns
returns c =
    names_target c.args.lines.now c.args.targets.now c.args.index (c.args.claim.now ++ c.args.others.now) c.are_among.result
    (omega (arith, c.if-number-lt1.false)) (omega (arith, c.if-number-count.false, c.count.ensures))
    (subst (λ line. IsTrue c.are_among.result ↔ All (Contains (c.args.claim.now ++ c.args.others.now)) line) c.clause-line.ensures c.are_among.ensures)
