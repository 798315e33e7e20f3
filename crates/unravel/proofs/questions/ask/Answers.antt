use Rattle.std.proofs.Common.{◌+◌, sym, ◌∙◌, subst}
use Rattle.enc_layout.specs.Assigned.{accepted_question}
use Rattle.unravel.specs.Depths.{AreStatesBelow, IsAcceptedAnswer, IsUnprunedAnswer}
use Rattle.unravel.proofs.Earlier.{still_below}
use Rattle.unravel.proofs.Putting.{kept_trans, refuses_more, ready_still}
use Rattle.unravel.proofs.Verdicts.{open_told}
use Rattle.unravel.proofs.questions.ask.Goals as goal

pub returns-in-Some-clause-states : goal.returns-in-Some-clause-states
returns-in-Some-clause-states c =
    subst (AreStatesBelow c.args.closure.now.formula c.args.closure.now.kind (c.args.depth + 1)) (sym c.in_ok-rule.ensures.still.states)
    c.in_ok-assume.ensures.0

pub accepting_rule-requires-clause-ready : goal.accepting_rule-requires-clause-ready
accepting_rule-requires-clause-ready c = record { through = c.requires.through; states = c.in_ok-assume.ensures }

pub is_unpruned-requires-clause-ready : goal.is_unpruned-requires-clause-ready
is_unpruned-requires-clause-ready c = ready_still (record { through = c.requires.through; states = c.in_ok-assume.ensures }) c.in_ok-rule.ensures.still

pub returns-then-not-unpruned-clause-states : goal.returns-then-not-unpruned-clause-states
returns-then-not-unpruned-clause-states c =
    let same = c.in_ok-unpruned.ensures.still.states ∙ c.in_ok-rule.ensures.still.states in
    subst (AreStatesBelow c.args.closure.now.formula c.args.closure.now.kind (c.args.depth + 1)) (sym same) c.in_ok-assume.ensures.0

pub returns-then-not-unpruned-clause-kept : goal.returns-then-not-unpruned-clause-kept
returns-then-not-unpruned-clause-kept c =
    kept_trans c.args.inputs.now.solver.log.inputs c.accepting_rule.new.inputs.solver.log.inputs c.is_unpruned.new.inputs.solver.log.inputs
    c.in_ok-rule.ensures.still.kept c.in_ok-unpruned.ensures.still.kept

-- pruned: what refused acceptance refuses it with what the second question has put in
pub returns-then-not-unpruned-clause-tells : goal.returns-then-not-unpruned-clause-tells
returns-then-not-unpruned-clause-tells c =
    let f = c.args.closure.now.formula in
    let kind = c.args.closure.now.kind in
    let k = c.args.depth in
    let first = c.accepting_rule.new.inputs.solver in
    let last = c.is_unpruned.new.inputs.solver in
    let never = subst (IsAcceptedAnswer f kind k first) c.in_default.is c.in_ok-rule.ensures.answer in
    let pruned = subst (IsUnprunedAnswer f kind k last) c.if-not-unpruned.true c.in_ok-unpruned.ensures.answer in
    ((never.0, refuses_more first last (accepted_question f kind k) c.in_ok-unpruned.ensures.still.kept never.1), pruned)

pub returns-clause-states : goal.returns-clause-states
returns-clause-states c =
    let f = c.args.closure.now.formula in
    let kind = c.args.closure.now.kind in
    let n = c.args.depth + 1 in
    let same = c.in_ok-unpruned.ensures.still.states ∙ c.in_ok-rule.ensures.still.states in
    let below = subst (AreStatesBelow f kind n) (sym same) c.in_ok-assume.ensures.0 in
    still_below f kind n c.is_unpruned.new.states.items c.begin_anew.new.states.items below c.begin_anew.ensures

pub returns-clause-kept : goal.returns-clause-kept
returns-clause-kept c =
    kept_trans c.args.inputs.now.solver.log.inputs c.accepting_rule.new.inputs.solver.log.inputs c.is_unpruned.new.inputs.solver.log.inputs
    c.in_ok-rule.ensures.still.kept c.in_ok-unpruned.ensures.still.kept

pub returns-clause-tells : goal.returns-clause-tells
returns-clause-tells c =
    let f = c.args.closure.now.formula in
    let kind = c.args.closure.now.kind in
    let k = c.args.depth in
    let first = c.accepting_rule.new.inputs.solver in
    let last = c.is_unpruned.new.inputs.solver in
    let never = subst (IsAcceptedAnswer f kind k first) c.in_default.is c.in_ok-rule.ensures.answer in
    let has = subst (IsUnprunedAnswer f kind k last) c.if-not-unpruned.false c.in_ok-unpruned.ensures.answer in
    (open_told f kind k never.0 has, refuses_more first last (accepted_question f kind k) c.in_ok-unpruned.ensures.still.kept never.1)
