use Rattle.std.proofs.Common.{Contains, get_or, sym, ap, ◌∙◌, subst}
use Rattle.cdcl_watches.specs.Heads.{ArenaValue, heads_of, number_of}
use Rattle.cdcl_watches.proofs.Buffer.{name_at_head}
use Rattle.cdcl_watches.proofs.arena.Arena.name.Goals as goal

pub returns : goal.returns
returns c =
    name_at_head c.self.inside.items.items (heads_of c.self.inside.items.items) c.self.invariant.0 c.args.head _ c.index.ensures
    (subst (λ (v : ArenaValue). Contains v.heads c.args.head) (sym c.self.view_is) c.requires)
    ∙ ap (λ (v : ArenaValue). get_or v.names (number_of v.heads c.args.head) 0) c.self.view_is
