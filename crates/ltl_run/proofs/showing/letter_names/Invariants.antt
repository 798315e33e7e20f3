use Rattle.std.proofs.Common.{◌≡◌, take, All}
use Rattle.ltl_run.specs.Shown.{entry_names, IsSmall}
use Rattle.ltl_run.proofs.showing.letter_names.Given as goal

abbrev pub invariant-loop-entry : goal.invariant-loop-entry
invariant-loop-entry l = record {
  names : l.names.items ≡ entry_names l.table.names (take l.entry-index l.entries);
  small : All IsSmall (take l.entry-index l.entries);
}
