use Rattle.std.proofs.Common.{map}
use Rattle.requirement_report.specs.Known.{known_in}
use Rattle.requirement_report.specs.Slips.{slip_in}
use Rattle.requirement_report.proofs.Slipped.{found_slips}
use Rattle.requirement_report.proofs.slips.all_slips.Goals as goal

pub returns : goal.returns
returns c =
    found_slips c.args.uses.now (map known_in c.in_ok-known.known.items) c.loop-one.one-index (map slip_in c.loop-one.slips.items) c.in_ok-known.ensures
    c.loop-one-test.false c.loop-one.invariant
