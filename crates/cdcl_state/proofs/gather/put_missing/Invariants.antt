use Rattle.std.proofs.Common.{◌≡◌, List, length}
use Rattle.cnf_base.specs.declared.literal.Hint.{Hint}
use Rattle.cdcl_state.specs.Gathered.{IsMet, IsGathered}
use Rattle.cdcl_state.proofs.gather.put_missing.Given as goal

abbrev pub invariant-loop-index : goal.invariant-loop-index
invariant-loop-index l = record {
  size : length l.marks.stamps ≡ length l.initial.marks.stamps;
  lists : length l.watches.lists ≡ length l.initial.watches.lists;
  gathered : (names : List Hint) → IsGathered (IsMet names l.there.items 0) l.log l.initial.watches
      → IsGathered (IsMet names l.there.items l.index) l.log l.watches;
}
