use Rattle.std.proofs.Common.{sym, subst}
use Rattle.cdcl_watches.specs.Watching.{IsWidened}
use Rattle.cdcl_watches.proofs.Kept.{mid_some, narrowed_is, narrowed_watchers}
use Rattle.cdcl_watches.proofs.watches.Watches.forget_letter.Goals as goal

pub shrink-requires-2 : goal.shrink-requires-2
shrink-requires-2 c =
    mid_some c.requires.0 c.self.inside.arena.heads c.self.inside.arena.names c.self.invariant.none c.self.inside.arena.clauses c.self.inside.lists
    c.shrink.new.self c.shrink.new.self (subst (IsWidened c.requires.0) (sym c.self.view_is) c.requires.1) c.shrink.ensures

pub invariant_of-self : goal.invariant_of-self
invariant_of-self c =
    narrowed_watchers c.requires.0 c.self.inside.arena.heads c.self.inside.arena.names c.self.invariant.none c.self.inside.arena.clauses c.self.inside.lists
    c.shrink.new.self c.shrink-2.new.self (subst (IsWidened c.requires.0) (sym c.self.view_is) c.requires.1)
    c.shrink.ensures c.shrink-2.ensures c.self.invariant

pub returns : goal.returns
returns c = λ before widened.
    narrowed_is before c.self.inside.arena.heads c.self.inside.arena.names c.self.invariant.none c.self.inside.arena.clauses c.self.inside.lists
    c.shrink.new.self c.shrink-2.new.self (subst (IsWidened before) (sym c.self.view_is) widened)
    c.shrink.ensures c.shrink-2.ensures
