use Rattle.std.proofs.Common.{ap, take}
use Rattle.program_input.proofs.Cutting.{first_cut, later, none_at_all}
use Rattle.program_input.proofs.parts.cut.Goals as goal

pub returns-in-Some : goal.returns-in-Some
returns-in-Some c =
    let bytes = c.args.bytes.now in
    first_cut bytes c.loop-start.start _ c.in-Some.second.now c.loop-start.invariant c.in-Some.ensures (ap (λ n. take n bytes) c.saturating_sub.ensures)

pub loop-start-preserved : goal.loop-start-preserved
loop-start-preserved c = later c.args.bytes.now c.loop-start.start c.loop-start.invariant c.in_default.ensures

pub returns : goal.returns
returns c = none_at_all c.args.bytes.now c.loop-start.start c.loop-start-test.false c.loop-start.invariant
