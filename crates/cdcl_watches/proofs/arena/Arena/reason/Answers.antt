use Rattle.std.proofs.Common.{◌<◌, length, sym, ◌∙◌, subst}
use Rattle.cdcl_watches.specs.Heads.{ArenaValue, heads_of, number_of}
use Rattle.cdcl_watches.proofs.Noted.{noted_head, head_clause}
use Rattle.cdcl_watches.proofs.arena.Arena.reason.Goals as goal

pub returns-else-name : goal.returns-else-name
returns-else-name c =
    let items = c.self.inside.items.items in
    let head = c.in-Some.head.now in
    let look = rw c.deref.ensures.value at c.in-Some.ensures.lookup in
    let there = noted_head (heads_of items) c.self.inside.reasons.items c.args.letter head c.self.invariant.1 look.3.0 look.1 c.if-head.false in
    let low = subst (λ (v : ArenaValue). number_of v.heads head < length v.clauses) c.self.view_is
    (head_clause items (heads_of items) head c.self.invariant.0 there) in
    (number_of c.args.self.now.heads head, low, sym c.name.ensures ∙ c.if-name.false, c.clause.ensures)
