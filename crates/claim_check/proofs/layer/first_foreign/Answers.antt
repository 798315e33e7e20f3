use mathlib.Core.Bool.{false≢true}
use Rattle.std.proofs.Common.{[], get_or, All, length, arith, subst, sym, refl, below_more}
use Rattle.cnf_base.specs.Known.{IsKnown}
use Rattle.claim_check.proofs.Finding.{bad_here, all_good}
use Rattle.claim_check.proofs.Naming.{own}
use Rattle.claim_check.proofs.layer.first_foreign.Goals as goal

pub claims-preserved : goal.claims-preserved
claims-preserved c =
    below_more (λ q. All (IsKnown c.args.width) (get_or c.args.claims.now q [])) c.claims.place c.claims.invariant
    (subst (All (IsKnown c.args.width)) (own c.args.claims.now c.claims.place c.clause.result.now c.clause.ensures) (c.if-not-is_of_entries.ensures.0 refl))

pub returns-then-not-is_of_entries : goal.returns-then-not-is_of_entries
returns-then-not-is_of_entries c =
    bad_here (λ q. All (IsKnown c.args.width) (get_or c.args.claims.now q [])) (length c.args.claims.now) c.claims.place
    (omega (arith, c.claims-test.true, c.count-place-end.ensures))
    (λ good. false≢true (c.if-not-is_of_entries.ensures.1
    (subst (All (IsKnown c.args.width)) (sym (own c.args.claims.now c.claims.place c.clause.result.now c.clause.ensures)) good))) c.claims.invariant

pub returns : goal.returns
returns c =
    all_good (λ q. All (IsKnown c.args.width) (get_or c.args.claims.now q [])) (length c.args.claims.now) c.claims.place
    (omega (arith, c.claims-test.false, c.count-place-end.ensures)) c.claims.invariant
