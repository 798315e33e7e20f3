use Rattle.std.proofs.Common.{◌≡◌, ◌<◌, drop}
use Rattle.black_view.specs.Words.{number_of, number_behind}
use Rattle.black_view.proofs.words.number_of.Given as goal

abbrev pub invariant-loop-digit : goal.invariant-loop-digit
invariant-loop-digit l = record {
  same : number_of l.digits ≡ number_behind l.number (drop l.digit-index l.digits);
  small : l.number < 1000000000;
}
