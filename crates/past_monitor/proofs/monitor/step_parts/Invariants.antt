use Rattle.std.specs.Prelude.{◌≡◌, vec_capacity}
use Rattle.past_monitor.specs.Part.{AreSteppedTo}
use Rattle.past_monitor.proofs.monitor.step_parts.Given as goal

abbrev pub invariant-loop-place : goal.invariant-loop-place
invariant-loop-place l = record {
  done : AreSteppedTo l.place l.state l.fn.parts.items l.parts.items l.values.items;
  parts : vec_capacity l.parts ≡ vec_capacity l.fn.parts;
  values : vec_capacity l.values ≡ vec_capacity l.fn.values;
}
