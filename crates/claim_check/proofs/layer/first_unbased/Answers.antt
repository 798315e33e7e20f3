use Rattle.claim_check.specs.Data.{layer_in}
use Rattle.claim_check.proofs.Layered.{based_last, based_everywhere, based_meeting}
use Rattle.claim_check.proofs.layer.first_unbased.Goals as goal

pub returns-in-Last : goal.returns-in-Last
returns-in-Last c =
    let layer = layer_in c.args.layer.now in
    based_last c.args.closure.now.formula c.args.kind layer.eventuality c.args.base c.args.lines.now layer c.deref.result.now c.negation-last.result
    c.first_missed.result
    c.requires c.in-Last.is c.deref.ensures.value c.negation-last.ensures c.first_missed.ensures

pub returns-in-Everywhere : goal.returns-in-Everywhere
returns-in-Everywhere c =
    let layer = layer_in c.args.layer.now in
    based_everywhere c.args.closure.now.formula c.args.kind layer.eventuality c.args.base c.args.lines.now layer c.deref-in-Everywhere.result.now
    c.negation-after.result c.first_missed-in-Everywhere.result
    c.requires c.in-Everywhere.is c.deref-in-Everywhere.ensures.value c.negation-after.ensures c.first_missed-in-Everywhere.ensures

pub returns-in-Meeting : goal.returns-in-Meeting
returns-in-Meeting c =
    let layer = layer_in c.args.layer.now in
    based_meeting c.args.closure.now.formula c.args.kind layer.eventuality c.args.base c.args.lines.now layer c.deref-in-Meeting.result.now
    c.negation-after-in-Meeting.result
    c.in-Meeting.pending c.in-Meeting.missed c.first_missed_twice.result
    c.requires c.in-Meeting.is c.deref-in-Meeting.ensures.value c.negation-after-in-Meeting.ensures c.first_missed_twice.ensures
