use Rattle.std.proofs.Common.{◌∙◌, arith}
use Rattle.cdcl_trail.proofs.Bound.{trail_bounded}
use Rattle.cdcl_propagate.proofs.Ready.{none_case, grown_more}
use Rattle.cdcl_propagate.proofs.propagate.propagate.Goals as goal

pub returns-in_err-hint-clause-grown : goal.returns-in_err-hint-clause-grown
returns-in_err-hint-clause-grown c =
    grown_more c.args.assigned.now.trail c.up.assigned.trail c.visit_list.new.assigned.trail c.up.invariant.grown c.in_err-hint.ensures.grown

pub returns-in-Some-clause-grown : goal.returns-in-Some-clause-grown
returns-in-Some-clause-grown c =
    grown_more c.args.assigned.now.trail c.up.assigned.trail c.visit_list.new.assigned.trail c.up.invariant.grown c.in_ok-hint.ensures.grown

pub up-smaller : goal.up-smaller
up-smaller c =
    let bound = trail_bounded c.up.assigned.values c.up.assigned.trail c.invariant.ensures in
    omega (arith, c.in_ok-hint.ensures.letters, bound, c.up-test.true)

pub up-preserved : goal.up-preserved
up-preserved c =
    record {
      ready = none_case _ c.in_ok-hint.field-0 c.in-None.is c.in_ok-hint.ensures.found;
      grown = grown_more c.args.assigned.now.trail c.up.assigned.trail c.visit_list.new.assigned.trail c.up.invariant.grown c.in_ok-hint.ensures.grown;
      letters = c.in_ok-hint.ensures.letters ∙ c.up.invariant.letters;
      named = c.in_ok-hint.ensures.names ∙ c.up.invariant.named;
      low = c.extend.ensures.low;
      lasting = c.extend.ensures.lasting;
    }

pub returns-in_err-hint-clause-lasting : goal.returns-in_err-hint-clause-lasting
returns-in_err-hint-clause-lasting c = c.in_err-hint.ensures.lasting c.up.lasting c.up.invariant.low c.up.invariant.lasting

pub returns-in-Some-clause-lasting : goal.returns-in-Some-clause-lasting
returns-in-Some-clause-lasting c = c.in_ok-hint.ensures.lasting c.up.lasting c.up.invariant.low c.up.invariant.lasting

pub extend-requires-clause-lasting : goal.extend-requires-clause-lasting
extend-requires-clause-lasting c = c.in_ok-hint.ensures.lasting c.up.lasting c.up.invariant.low c.up.invariant.lasting

pub extend-requires-clause-ready : goal.extend-requires-clause-ready
extend-requires-clause-ready c = none_case _ c.in_ok-hint.field-0 c.in-None.is c.in_ok-hint.ensures.found
