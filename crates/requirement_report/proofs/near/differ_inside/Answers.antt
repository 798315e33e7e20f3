use Rattle.std.proofs.Common.{◌∙◌, sym, arith}
use Rattle.requirement_report.proofs.Differing.{none_behind}
use Rattle.requirement_report.proofs.near.differ_inside.Goals as goal

pub returns : goal.returns
returns c =
    sym (none_behind c.places.inside c.args.xs.now c.args.ys.now c.places.place (omega (arith, c.places-test.false, c.min-shorter.ensures)))
    ∙ c.places.invariant
