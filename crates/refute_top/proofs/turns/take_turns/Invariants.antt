use Rattle.std.proofs.Common.{◌≡◌, false}
use Rattle.refute_top.proofs.turns.take_turns.Given as goal

abbrev pub invariant-turns : goal.invariant-turns
invariant-turns g l = record {
  same : l.attempt ≡ l.closure;
  silent : l.options.progress ≡ false → l.notes ≡ l.fn.notes;
}
