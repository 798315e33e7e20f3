use Rattle.std.proofs.Common.{◌-◌, take, length, sym, ap, ◌∙◌, subst}
use Rattle.cdcl_watches.specs.Heads.{ArenaValue, AreHeads, heads_of}
use Rattle.cdcl_watches.proofs.Buffer.{popped_heads, popped_value, value_of}
use Rattle.cdcl_watches.proofs.Noted.{noted_none}
use Rattle.cdcl_watches.proofs.arena.Arena.pop.Goals as goal

pub invariant_of-self : goal.invariant_of-self
invariant_of-self c = (
  subst (λ xs. AreHeads xs (heads_of xs)) (sym c.truncate.ensures.items)
      (popped_heads c.self.inside.items.items c.self.invariant.0 c.args.head (rw (← c.self.view_is) at c.requires.known)
      (rw (← c.self.view_is) at c.requires.last)),
  noted_none _ c.self.inside.reasons.items _ c.truncate-2.ensures.items,
)

pub returns : goal.returns
returns c =
    ap value_of c.truncate.ensures.items
    ∙ popped_value c.self.inside.items.items c.self.invariant.0 c.args.head (rw (← c.self.view_is) at c.requires.known)
    (rw (← c.self.view_is) at c.requires.last)
    ∙ ap (λ (v : ArenaValue). let w : ArenaValue = record {
      clauses = take (length v.clauses - 1) v.clauses;
      heads = take (length v.clauses - 1) v.heads;
      names = take (length v.clauses - 1) v.names;
    } in w) c.self.view_is
