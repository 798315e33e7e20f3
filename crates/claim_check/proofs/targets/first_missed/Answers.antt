use mathlib.Core.Bool.{false≢true}
use Rattle.std.proofs.Common.{◌++◌, length, arith, subst, sym, refl, below_more}
use Rattle.enc_layout.specs.Targets.{IsTarget}
use Rattle.claim_check.specs.Bases.{IsHeld}
use Rattle.claim_check.proofs.Finding.{bad_here, all_good}
use Rattle.claim_check.proofs.Naming.{own}
use Rattle.claim_check.proofs.targets.first_missed.Goals as goal

pub claims-preserved : goal.claims-preserved
claims-preserved c =
    below_more (IsHeld c.args.lines.now c.args.claims.now c.args.targets.now c.args.others.now) c.claims.place c.claims.invariant
    (subst (λ claim. IsTarget c.args.lines.now c.args.targets.now c.claims.place (claim ++ c.args.others.now))
    (own c.args.claims.now c.claims.place c.clause-claim.result.now c.clause-claim.ensures)
    (c.if-not-is_target.ensures.0 refl))

pub returns-then-not-is_target : goal.returns-then-not-is_target
returns-then-not-is_target c =
    bad_here (IsHeld c.args.lines.now c.args.claims.now c.args.targets.now c.args.others.now) (length c.args.claims.now) c.claims.place
    (omega (arith, c.claims-test.true, c.count-place-end.ensures))
    (λ good. false≢true (c.if-not-is_target.ensures.1
    (subst (λ claim. IsTarget c.args.lines.now c.args.targets.now c.claims.place (claim ++ c.args.others.now))
    (sym (own c.args.claims.now c.claims.place c.clause-claim.result.now c.clause-claim.ensures)) good)))
    c.claims.invariant

pub returns : goal.returns
returns c =
    all_good (IsHeld c.args.lines.now c.args.claims.now c.args.targets.now c.args.others.now) (length c.args.claims.now) c.claims.place
    (omega (arith, c.claims-test.false, c.count-place-end.ensures)) c.claims.invariant
