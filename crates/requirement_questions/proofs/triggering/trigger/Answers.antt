use Rattle.std.proofs.Common.{◌∙◌, Some, sym, ap, subst}
use Rattle.requirement_questions.specs.Trigger.{HasTrigger}
use Rattle.requirement_questions.proofs.triggering.trigger.Goals as goal

pub returns-in_default : goal.returns-in_default
returns-in_default c = subst (HasTrigger c.args.table.now c.args.root) c.in_default.is c.condition_of.ensures

pub eventually-requires : goal.eventually-requires
eventually-requires c =
    let has : HasTrigger c.args.table.now c.args.root (Some c.in-Some.condition) =
    subst (HasTrigger c.args.table.now c.args.root) c.in-Some.is c.condition_of.ensures in
    has.0

pub returns : goal.returns
returns c =
    let has : HasTrigger c.args.table.now c.args.root (Some c.in-Some.condition) =
    subst (HasTrigger c.args.table.now c.args.root) c.in-Some.is c.condition_of.ensures in
    let made = c.in_ok-made.ensures in
    (made.0, has.1 ∙ ap Some (sym made.1))
