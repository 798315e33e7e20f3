use Rattle.std.proofs.Common.{length, sym, ap, ◌∙◌}
use Rattle.cdcl_watches.specs.Watching.{WatchValue}
use Rattle.cdcl_watches.proofs.Numbers.{length_numbers}
use Rattle.cdcl_watches.proofs.Emptied.{emptied_watchers, emptied_value}
use Rattle.cdcl_watches.proofs.watches.Watches.emptied.Goals as goal

pub invariant_of-result : goal.invariant_of-result
invariant_of-result c = emptied_watchers c.in_ok-arena.arena c.in_ok-lists.lists (length c.self.inside.lists) c.in_ok-arena.ensures c.in_ok-lists.ensures

pub returns : goal.returns
returns c =
    emptied_value c.in_ok-arena.arena c.in_ok-lists.lists (length c.self.inside.lists) c.in_ok-arena.ensures c.in_ok-lists.ensures
    (length c.args.self.now.lists)
    (sym (length_numbers c.self.inside.arena.heads c.self.invariant.none c.self.inside.lists) ∙ ap (λ (v : WatchValue). length v.lists) c.self.view_is)
