use Rattle.std.proofs.Common.{subst}
use Rattle.unravel.specs.declared.decision.Decision.TheVariants as decisions
use Rattle.unravel.specs.Settling.{IsSettled}
use Rattle.unravel.proofs.Verdicts.{undecided_at, unsat_none, bound_settles}
use Rattle.unravel.proofs.deciding.decide.Goals as goal

pub returns-in-Some-clause-decision : goal.returns-in-Some-clause-decision
returns-in-Some-clause-decision c = subst (IsSettled c.args.closure.now.formula c.args.closure.now.kind c.args.limit) c.in-Some.is c.in_ok-decision.ensures

pub returns-in-Some-clause-none : goal.returns-in-Some-clause-none
returns-in-Some-clause-none c =
    let f = c.args.closure.now.formula in
    let kind = c.args.closure.now.kind in
    unsat_none f kind c.args.limit c.in-Some.decision (subst (IsSettled f kind c.args.limit) c.in-Some.is c.in_ok-decision.ensures)

pub returns-in-Some-clause-settled : goal.returns-in-Some-clause-settled
returns-in-Some-clause-settled c =
    let f = c.args.closure.now.formula in
    let kind = c.args.closure.now.kind in
    bound_settles f kind c.args.limit c.in-Some.decision (subst (IsSettled f kind c.args.limit) c.in-Some.is c.in_ok-decision.ensures)

pub returns-in-None-clause-decision : goal.returns-in-None-clause-decision
returns-in-None-clause-decision c =
    let f = c.args.closure.now.formula in
    let kind = c.args.closure.now.kind in
    undecided_at f kind c.args.limit (subst (IsSettled f kind c.args.limit) c.in-None.is c.in_ok-decision.ensures)

pub returns-in-None-clause-settled : goal.returns-in-None-clause-settled
returns-in-None-clause-settled c =
    let f = c.args.closure.now.formula in
    let kind = c.args.closure.now.kind in
    bound_settles f kind c.args.limit (decisions.Undecided c.args.limit)
    (undecided_at f kind c.args.limit (subst (IsSettled f kind c.args.limit) c.in-None.is c.in_ok-decision.ensures))
