use Rattle.std.proofs.Common.{subst}
use Rattle.enc_layout.specs.Clauses.{layout_of}
use Rattle.unravel.specs.Settling.{IsOutcome}
use Rattle.unravel.proofs.Verdicts.{within_limit, still_open_first, shown_decided, refuted_decided, open_through}
use Rattle.unravel.proofs.deciding.settle_with.Goals as goal

pub loop-depth-init : goal.loop-depth-init
loop-depth-init c = record {
  open-before =
      still_open_first c.args.closure.now.formula c.args.closure.now.kind c.args.inputs.now c.new-states.result.items c.requires.empty
      c.new-states.ensures.items;
}

pub look-requires-clause-fits : goal.look-requires-clause-fits
look-requires-clause-fits c = c.numbering.ensures.lower (layout_of c.args.closure.now) c.loop-depth.depth c.args.limit
    (within_limit c.loop-depth.depth c.args.limit c.loop-depth-test.true) c.requires.fits

pub returns-in-Accepted : goal.returns-in-Accepted
returns-in-Accepted c =
    let f = c.args.closure.now.formula in
    let kind = c.args.closure.now.kind in
    let k = c.loop-depth.depth in
    let outcome = subst (IsOutcome f kind k c.look.new.inputs c.look.new.states.items) c.in-Accepted.is c.in_ok-trace.ensures in
    shown_decided f kind c.args.limit k (within_limit k c.args.limit c.loop-depth-test.true)
    c.loop-depth.invariant.open-before.still c.in-Accepted.trace outcome

pub refuted-decision-requires : goal.refuted-decision-requires
refuted-decision-requires c =
    let f = c.args.closure.now.formula in
    let kind = c.args.closure.now.kind in
    let outcome = subst (IsOutcome f kind c.loop-depth.depth c.look.new.inputs c.look.new.states.items) c.in-Pruned.is c.in_ok-trace.ensures in
    record { closed = outcome.2 }

pub returns-in-Pruned : goal.returns-in-Pruned
returns-in-Pruned c =
    let f = c.args.closure.now.formula in
    let kind = c.args.closure.now.kind in
    let k = c.loop-depth.depth in
    let outcome = subst (IsOutcome f kind k c.look.new.inputs c.look.new.states.items) c.in-Pruned.is c.in_ok-trace.ensures in
    refuted_decided f kind c.args.limit k (within_limit k c.args.limit c.loop-depth-test.true)
    c.loop-depth.invariant.open-before.still outcome.0 outcome.1 c.refuted-decision.result c.refuted-decision.ensures

pub loop-depth-preserved : goal.loop-depth-preserved
loop-depth-preserved c =
    let f = c.args.closure.now.formula in
    let kind = c.args.closure.now.kind in
    record { open-before = subst (IsOutcome f kind c.loop-depth.depth c.look.new.inputs c.look.new.states.items) c.in-Open.is c.in_ok-trace.ensures }

pub returns : goal.returns
returns c = open_through c.args.closure.now.formula c.args.closure.now.kind c.args.limit c.loop-depth.depth c.loop-depth-test.false
    c.loop-depth.invariant.open-before.still
