use Rattle.std.proofs.Common.{◌≡◌, ◌+◌, ◌<◌, ◌^◌, [], ◌∷◌, ◌++◌, length, ap, ◌∙◌, arith}
use Rattle.cdcl_watches.specs.Heads.{ArenaValue, heads_of}
use Rattle.cdcl_watches.proofs.Buffer.{pushed_heads, pushed_value}
use Rattle.cdcl_watches.proofs.Noted.{noted_pushed}
use Rattle.cdcl_watches.proofs.arena.Arena.push.Goals as goal

pub invariant_of-self : goal.invariant_of-self
invariant_of-self c =
    let from : c.len-from.result ≡ length c.self.inside.items.items = omega arith in
    let items = c.self.inside.items.items in
    let new = c.put_row.new.items.items in
    let short : length items + 2 + length c.args.row.now < 2 ^ 32 = omega (arith, c.if-from-row-gt-MAX_ITEMS.false, from) in
    let heads = ap (λ (v : ArenaValue). v.heads)
    (pushed_value items c.self.invariant.0 c.args.name c.args.row.now new c.in-Ok.ensures.put short c.len-from.result from) in (
      pushed_heads items c.self.invariant.0 c.args.name c.args.row.now new c.in-Ok.ensures.put short,
      noted_pushed (heads_of items) (heads_of new) c.self.inside.reasons.items c.len-from.result heads c.self.invariant.1,
    )

pub returns-in-Ok-clause-pushed : goal.returns-in-Ok-clause-pushed
returns-in-Ok-clause-pushed c =
    let from : c.len-from.result ≡ length c.self.inside.items.items = omega arith in
    pushed_value c.self.inside.items.items c.self.invariant.0 c.args.name c.args.row.now c.put_row.new.items.items c.in-Ok.ensures.put
    (omega (arith, c.if-from-row-gt-MAX_ITEMS.false, from)) c.len-from.result from
    ∙ ap (λ (v : ArenaValue). let w : ArenaValue = record {
      clauses = v.clauses ++ c.args.row.now ∷ [];
      heads = v.heads ++ c.len-from.result ∷ [];
      names = v.names ++ c.args.name ∷ [];
    } in w) c.self.view_is
