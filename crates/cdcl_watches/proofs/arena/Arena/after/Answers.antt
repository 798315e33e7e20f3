use Rattle.std.proofs.Common.{◌≡◌, suc, ◌+◌, ◌<◌, length, get_or, arith, subst}
use Rattle.cdcl_watches.specs.Heads.{ArenaValue, heads_of, number_of}
use Rattle.cdcl_watches.proofs.Buffer.{none_after, head_after}
use Rattle.cdcl_watches.proofs.arena.Arena.after.Goals as goal

pub returns-then-next-len : goal.returns-then-next-len
returns-then-next-len c =
    subst (λ (v : ArenaValue). suc (number_of v.heads c.args.head) ≡ length v.heads) c.self.view_is
    (none_after c.self.inside.items.items (heads_of c.self.inside.items.items) c.self.invariant.0 c.args.head _ c.index.ensures
    (rw (← c.self.view_is) at c.requires) (omega (arith, c.if-next-len.true, c.len.ensures)))

pub returns : goal.returns
returns c =
    subst (λ (v : ArenaValue). (suc (number_of v.heads c.args.head) < length v.heads)
    × (c.args.head + 2 + c.index.result.now ≡ get_or v.heads (suc (number_of v.heads c.args.head)) 0)) c.self.view_is
    (head_after c.self.inside.items.items c.self.invariant.0 c.args.head _ c.index.ensures (rw (← c.self.view_is) at c.requires)
    (omega (arith, c.if-next-len.false, c.len.ensures)))
