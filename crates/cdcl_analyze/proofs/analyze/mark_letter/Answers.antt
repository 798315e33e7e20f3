use Rattle.std.proofs.Common.{sym, subst}
use Rattle.cdcl_analyze.specs.Analysis.{AreWaiting}
use Rattle.cdcl_analyze.proofs.Steps.{waiting_marked}
use Rattle.cdcl_analyze.proofs.analyze.mark_letter.Goals as goal

pub returns-clause-waiting : goal.returns-clause-waiting
returns-clause-waiting c = λ end waits.
    let trail = c.args.graph.now.trail in
    waiting_marked trail c.args.letter c.place_of-place.result end c.join.new.self c.mark.new.self c.place_of-place.ensures c.in_ok-mark.ensures.only
    c.in_ok-mark.ensures.waits
    (subst (AreWaiting trail end) (sym c.join.ensures.rest) waits)
