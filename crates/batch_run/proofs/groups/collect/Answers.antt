use Rattle.std.proofs.Common.{◌≡◌, ◌∙◌, ◌+◌, ◌/◌, ◌%◌, ◌<◌, take, length, get_or, refl, sym, subst, arith}
use Rattle.batch_run.specs.Grouping.{HasOutcomes}
use Rattle.batch_run.proofs.Grouped.{one_collected}
use Rattle.batch_run.proofs.groups.collect.Goals as goal

pub places-preserved : goal.places-preserved
places-preserved c =
    let lines = c.args.lines.now.items in
    let lanes = c.args.lanes.now.items in
    let index = c.places.index in
    let low : index < length lines = omega (arith, c.places-test.true, c.len-index-end.ensures) in
    let lane = c.index.result.now in
    let found = c.index-in-places-2.result.now in
    let there = subst (λ n. (lane ≡ get_or lanes (index % n) lane) × (index / n < length lane.outcomes.items)
    × (found ≡ get_or lane.outcomes.items (index / n) found)) (c.len-workers.ensures ∙ c.args.lanes.now.ok.0)
    (c.index.ensures, omega (arith, c.if-group-len.false, c.len.ensures), c.index-in-places-2.ensures) in
    subst (λ after. HasOutcomes lanes (take (index + 1) lines) c.args.answers.now.items after) (sym c.in_ok-push.ensures.items)
    (one_collected lanes lines index c.index-in-places.result.now c.args.answers.now.items c.places.answers.items _ low c.places.invariant
    c.index-in-places.ensures refl (lane, there.0, there.1, there.2))
