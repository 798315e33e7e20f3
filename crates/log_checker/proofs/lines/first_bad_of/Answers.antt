use Rattle.std.proofs.Common.{◌<◌, ◌≤◌, length, ◌∙◌, arith}
use Rattle.log_checker.proofs.Together.{found_answers, found_none, found_some, found_nowhere}
use Rattle.log_checker.proofs.lines.first_bad_of.Goals as goal

pub areas-preserved : goal.areas-preserved
areas-preserved c =
    let low : c.areas.index < length c.args.areas.now.items = omega (arith, c.areas-test.true, c.len-index-end.ensures) in
    found_none c.args.areas.now.items c.areas.index c.index.result.now low c.index.ensures c.in_default.is c.areas.invariant

pub returns-in-Some : goal.returns-in-Some
returns-in-Some c cuts =
    let areas = c.args.areas.now.items in
    let low : c.areas.index < length areas = omega (arith, c.areas-test.true, c.len-index-end.ensures) in
    found_some areas c.areas.index c.index.result.now c.in-Some.line low c.index.ensures c.in-Some.is c.areas.invariant ∙ found_answers cuts 0 areas

pub returns : goal.returns
returns c cuts =
    let areas = c.args.areas.now.items in
    let high : length areas ≤ c.areas.index = omega (arith, c.areas-test.false, c.len-index-end.ensures) in
    found_nowhere areas c.areas.index high c.areas.invariant ∙ found_answers cuts 0 areas
