use Rattle.std.proofs.Common.{subst}
use Rattle.claim_check.specs.Data.{layer_in}
use Rattle.claim_check.specs.Reasons.{IsBaseAnswer}
use Rattle.claim_check.proofs.Faults.{joined_ok}
use Rattle.claim_check.proofs.layer.take_layer.Goals as goal

pub returns-clause-judged : goal.returns-clause-judged
returns-clause-judged c =
    let f = c.args.closure.now.formula in
    let layer = layer_in c.args.layer.now in
    joined_ok f c.args.kind c.args.clauses.now c.args.lines.now c.take_base.new.lines layer c.take_step.result (c.in_ok-fault.ensures.lines c.in_default.is)
    (subst (IsBaseAnswer f c.args.kind c.args.clauses.now c.args.lines.now layer) c.in_default.is c.in_ok-fault.ensures.judged) c.take_step.ensures.judged
