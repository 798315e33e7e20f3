use mathlib.Core.Bool.{false≢true}
use Rattle.std.proofs.Common.{◌+◌, ◌*◌, ◌++◌, length, arith, subst, sym, refl, below_more}
use Rattle.enc_layout.specs.Targets.{IsTarget}
use Rattle.claim_check.specs.Bases.{IsHeldTwice}
use Rattle.claim_check.proofs.Finding.{bad_here, all_good}
use Rattle.claim_check.proofs.Naming.{own}
use Rattle.claim_check.proofs.targets.first_missed_twice.Goals as goal

pub claims-preserved : goal.claims-preserved
claims-preserved c =
    let lines = c.args.lines.now in
    let targets = c.args.targets.now in
    let q = c.claims.place in
    below_more (IsHeldTwice lines c.args.claims.now targets c.args.some.now c.args.others.now) q c.claims.invariant
    (subst (λ claim. IsTarget lines targets (2 * q) (claim ++ c.args.some.now) × IsTarget lines targets (2 * q + 1) (claim ++ c.args.others.now))
    (own c.args.claims.now q c.clause-claim.result.now c.clause-claim.ensures) (c.if-not-are_two.ensures.0 refl))

pub returns-then-not-are_two : goal.returns-then-not-are_two
returns-then-not-are_two c =
    let lines = c.args.lines.now in
    let targets = c.args.targets.now in
    let q = c.claims.place in
    bad_here (IsHeldTwice lines c.args.claims.now targets c.args.some.now c.args.others.now) (length c.args.claims.now) q
    (omega (arith, c.claims-test.true, c.count-place-end.ensures))
    (λ good. false≢true (c.if-not-are_two.ensures.1
    (subst (λ claim. IsTarget lines targets (2 * q) (claim ++ c.args.some.now) × IsTarget lines targets (2 * q + 1) (claim ++ c.args.others.now))
    (sym (own c.args.claims.now q c.clause-claim.result.now c.clause-claim.ensures)) good)))
    c.claims.invariant

pub returns : goal.returns
returns c =
    all_good (IsHeldTwice c.args.lines.now c.args.claims.now c.args.targets.now c.args.some.now c.args.others.now) (length c.args.claims.now) c.claims.place
    (omega (arith, c.claims-test.false, c.count-place-end.ensures)) c.claims.invariant
