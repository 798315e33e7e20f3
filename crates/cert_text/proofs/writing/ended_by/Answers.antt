use Rattle.cert_text.specs.Writing.{is_ended}
use Rattle.cert_text.proofs.Ending.{gather_more}
use Rattle.cert_text.proofs.writing.ended_by.Goals as goal

pub loop-hint-preserved : goal.loop-hint-preserved
loop-hint-preserved c =
    gather_more (is_ended c.args.last.now c.args.targets.now c.args.line)
    c.args.line c.args.hints.now c.loop-hint.hint-index _ c.loop-hint.found.items c.push_hinted.new.found.items c.loop-hint-test.true
    c.in_ok-push_hinted.ensures c.loop-hint.invariant
