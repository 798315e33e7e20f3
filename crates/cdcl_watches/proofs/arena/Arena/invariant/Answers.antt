use Rattle.std.proofs.Common.{subst}
use Rattle.cdcl_watches.specs.Watching.{AreApart}
use Rattle.cdcl_watches.specs.Heads.{ArenaValue, heads_of}
use Rattle.cdcl_watches.proofs.Buffer.{heads_apart}
use Rattle.cdcl_watches.proofs.arena.Arena.invariant.Goals as goal

pub returns-clause-apart : goal.returns-clause-apart
returns-clause-apart c =
    subst (λ (v : ArenaValue). AreApart v.heads) c.self.view_is (heads_apart c.self.inside.items.items (heads_of c.self.inside.items.items) c.self.invariant.0)
