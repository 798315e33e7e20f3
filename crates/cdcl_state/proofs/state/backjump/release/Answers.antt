use Rattle.std.proofs.Common.{◌<◌, inr, length, ◌∙◌, arith}
use Rattle.std.proofs.lemmas.List.{get_or_default}
use Rattle.cdcl_trail.specs.Trail.{blank_entry}
use Rattle.cdcl_state.proofs.Released.{released_more, released_all}
use Rattle.cdcl_state.proofs.state.backjump.release.Goals as goal

pub loop-place-preserved : goal.loop-place-preserved
loop-place-preserved c =
    let trail = c.args.assigned.now.trail in
    let k = c.loop-place.place in
    let low : k < length trail = omega (arith, c.loop-place-test.true, c.len-place-end.ensures) in
    record {
      size = c.release.ensures.size ∙ c.loop-place.invariant.size;
      held = c.release.ensures.held ∙ c.loop-place.invariant.held;
      at = inr (omega (arith, low));
      waiting = λ x. released_more trail c.args.count k c.args.choices.now c.loop-place.choices c.release.new.self c.entry.result x c.loop-place.auto.place
          (c.entry.ensures ∙ get_or_default trail k _ blank_entry low) c.loop-place.invariant.size (c.loop-place.invariant.waiting x)
          (c.release.ensures.waiting x);
    }

pub returns-clause-waiting : goal.returns-clause-waiting
returns-clause-waiting c = λ x.
    let trail = c.args.assigned.now.trail in
    released_all trail c.args.count c.loop-place.place (length trail) c.args.choices.now c.loop-place.choices x
    (omega (arith, c.loop-place-test.false, c.len-place-end.ensures)) c.loop-place.invariant.at
    (c.loop-place.invariant.waiting x)
