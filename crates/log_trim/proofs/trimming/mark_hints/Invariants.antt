use Rattle.std.proofs.Common.{◌≡◌, length}
use Rattle.clause_log.specs.LogValue.{hints_at}
use Rattle.log_trim.specs.Marking.{marked, AddsHints}
use Rattle.log_trim.proofs.trimming.mark_hints.Given as goal

abbrev pub invariant-hints : goal.invariant-hints
invariant-hints l = record {
  adds : AddsHints (marked l.fn.flags.items) (marked l.flags.items) (hints_at l.log.hints l.line) l.place;
  long : length l.flags.items ≡ length l.fn.flags.items;
}
