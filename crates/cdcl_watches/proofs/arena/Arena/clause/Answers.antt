use Rattle.std.proofs.Common.{◌+◌, Contains, map, slice_range, sym, ap, ◌∙◌, subst}
use Rattle.cdcl_watches.specs.Watching.{literal_of, clause_of}
use Rattle.cdcl_watches.specs.Turned.{turned}
use Rattle.cdcl_watches.specs.Heads.{ArenaValue, heads_of, number_of}
use Rattle.cdcl_watches.proofs.Buffer.{clause_at_head}
use Rattle.cdcl_watches.proofs.arena.Arena.clause.Goals as goal

pub returns : goal.returns
returns c =
    c.new.ensures ∙ ap (λ xs. turned (map literal_of (slice_range xs (c.args.head + 2) (c.args.head + 2 + c.index.result.now)))) c.deref.ensures.value
    ∙ clause_at_head c.self.inside.items.items (heads_of c.self.inside.items.items) c.self.invariant.0 c.args.head _ c.index.ensures
    (subst (λ (v : ArenaValue). Contains v.heads c.args.head) (sym c.self.view_is) c.requires)
    ∙ ap (λ (v : ArenaValue). clause_of v.clauses (number_of v.heads c.args.head)) c.self.view_is
