use Rattle.std.proofs.Common.{◌≡◌, ◌+◌, ◌≤◌, ◌⊎◌, All, take, length}
use Rattle.cdcl_analyze.proofs.Back.{IsBack}
use Rattle.cdcl_analyze.proofs.marks.Marks.take_back.Given as goal

abbrev pub invariant-back : goal.invariant-back
invariant-back l = record {
  back : IsBack l.initial.self-inside.outcomes.items l.initial.self-inside.consequences.items (length l.self-inside.consequences.items)
      l.self-inside.outcomes.items;
  consequences : l.self-inside.consequences.items ≡ take (length l.self-inside.consequences.items) l.initial.self-inside.consequences.items;
  low : (l.count ≤ length l.self-inside.consequences.items) ⊎ (l.self-inside.consequences.items ≡ l.initial.self-inside.consequences.items);
  bound : All (λ o. o ≤ l.self-inside.stamp + 1) l.self-inside.outcomes.items;
  stamps : l.self-inside.stamps.items ≡ l.initial.self-inside.stamps.items;
  stamp : l.self-inside.stamp ≡ l.initial.self-inside.stamp;
  waiting : l.self-inside.waiting ≡ l.initial.self-inside.waiting;
  levels : l.self-inside.levels ≡ l.initial.self-inside.levels;
}

abbrev pub decreases-back : goal.decreases-back
decreases-back l = length l.self-inside.consequences.items
