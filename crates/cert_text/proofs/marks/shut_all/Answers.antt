use Rattle.cert_text.proofs.Shutting.{up_to_more}
use Rattle.cert_text.proofs.marks.shut_all.Goals as goal

pub loop-number-preserved : goal.loop-number-preserved
loop-number-preserved c =
    up_to_more c.args.numbers c.loop-number.numbers c.next.new.self c.in-Some.number c.args.count c.args.ends.now.items c.loop-number.ends.items
    c.shut.new.ends.items
    c.loop-number.invariant c.in-Some.ensures.steps c.shut.ensures
