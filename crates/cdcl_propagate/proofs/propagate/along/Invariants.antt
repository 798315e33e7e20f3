use Rattle.std.proofs.Common.{◌≡◌, ◌≤◌, ◌-◌, [], ℕ, length, get_or}
use Rattle.cdcl_watches.specs.Watching.{code}
use Rattle.cdcl_watches.specs.Watchers.{IsWalked, walk_in, walked}
use Rattle.cdcl_propagate.specs.Visit.{IsVisiting, IsGrown, false_at}
use Rattle.cdcl_propagate.specs.Lasting.{IsLasting}
use Rattle.cdcl_propagate.proofs.propagate.along.Given as goal

abbrev pub invariant-along : goal.invariant-along
invariant-along l = record {
  same : l.falsified ≡ false_at l.assigned.trail l.place;
  walk : IsWalked (walk_in l.arena l.lists l.falsified l.walk);
  visiting : IsVisiting l.log.inputs l.log.lines l.place l.walk.kept l.assigned (walked (walk_in l.arena l.lists l.falsified l.walk));
  count : l.count ≡ length (get_or l.lists (code l.falsified) []);
  named : l.arena.names ≡ l.initial.arena.names;
  grown : IsGrown l.initial.assigned.trail l.assigned.trail;
  letters : length l.assigned.values ≡ length l.initial.assigned.values;
  lasting : (n : ℕ) → n ≤ l.place → IsLasting l.initial.arena.clauses l.initial.assigned.trail n → IsLasting l.arena.clauses l.assigned.trail n;
}

abbrev pub decreases-along : goal.decreases-along
decreases-along l = length (get_or l.lists (code l.falsified) []) - l.walk.next
