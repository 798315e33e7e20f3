use Rattle.std.proofs.Common.{◌≡◌}
use Rattle.cdcl_activity.proofs.choices.Choices.rescale.Given as goal

abbrev pub invariant-loop-i : goal.invariant-loop-i
invariant-loop-i l = record {
  order : l.self-inside.order ≡ l.initial.self-inside.order;
  held : l.self-inside.held ≡ l.initial.self-inside.held;
}
