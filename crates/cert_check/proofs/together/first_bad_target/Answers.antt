use Rattle.std.proofs.Common.{IsTrue}
use Rattle.cert_check.specs.Lawful.{IsGoodTarget}
use Rattle.cert_check.proofs.Judging.{good_so_far}
use Rattle.cert_check.proofs.together.first_bad_target.Goals as goal

pub targets-preserved : goal.targets-preserved
targets-preserved c =
    let yes : IsTrue c.is_good.result = search in
    good_so_far (IsGoodTarget c.args.closure.now.formula c.args.view.now) c.targets.index c.targets.invariant (c.is_good.ensures.0 yes)
