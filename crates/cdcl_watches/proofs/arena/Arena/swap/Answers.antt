use Rattle.std.proofs.Common.{◌+◌, sym, ap, ◌∙◌, subst, arith, length-set}
use Rattle.cdcl_watches.specs.Heads.{clauses_at, heads_of, names_at, AreNoted}
use Rattle.cdcl_watches.proofs.Buffer.{own_heads, length_at_head, literal_inside, swapped_heads, swapped_clauses, swapped_names}
use Rattle.cdcl_watches.proofs.arena.Arena.swap.Goals as goal

pub place_of-requires : goal.place_of-requires
place_of-requires c = omega (
  arith,
  length_at_head c.self.inside.items.items (heads_of c.self.inside.items.items) c.self.invariant.0 c.args.head (rw (← c.self.view_is) at c.requires.known)
      c.index.result.now c.index.ensures,
  (rw (← c.self.view_is) at c.requires.first),
)

pub place_of-requires-2 : goal.place_of-requires-2
place_of-requires-2 c = omega (
  arith,
  length_at_head c.self.inside.items.items (heads_of c.self.inside.items.items) c.self.invariant.0 c.args.head (rw (← c.self.view_is) at c.requires.known)
      c.index.result.now c.index.ensures,
  (rw (← c.self.view_is) at c.requires.second),
)

pub index-a-requires : goal.index-a-requires
index-a-requires c = omega (
  arith,
  literal_inside c.self.inside.items.items (heads_of c.self.inside.items.items) c.self.invariant.0 c.args.head (rw (← c.self.view_is) at c.requires.known)
      c.index.result.now c.index.ensures c.args.i c.place_of.result (rw (← c.self.view_is) at c.requires.first) c.place_of.ensures,
)

pub index-b-requires : goal.index-b-requires
index-b-requires c = omega (
  arith,
  literal_inside c.self.inside.items.items (heads_of c.self.inside.items.items) c.self.invariant.0 c.args.head (rw (← c.self.view_is) at c.requires.known)
      c.index.result.now c.index.ensures c.args.j c.place_of-2.result (rw (← c.self.view_is) at c.requires.second) c.place_of-2.ensures,
)

pub invariant_of-self : goal.invariant_of-self
invariant_of-self c =
    let are = swapped_heads c.self.inside.items.items
    (heads_of c.self.inside.items.items) c.self.invariant.0 c.args.head (rw (← c.self.view_is) at c.requires.known)
    c.index.result.now c.index.ensures c.args.i c.args.j c.place_of.result c.place_of-2.result c.index-a.result.now c.index-b.result.now
    (rw (← c.self.view_is) at c.requires.first) (rw (← c.self.view_is) at c.requires.second)
    c.place_of.ensures c.place_of-2.ensures c.index-a.ensures c.index-b.ensures in
    (own_heads _ _ are, subst (λ hs. AreNoted hs c.self.inside.reasons.items) (sym are.found) c.self.invariant.1)

pub returns-clause-clauses : goal.returns-clause-clauses
returns-clause-clauses c =
    rw (← c.self.view_is)
    (ap (clauses_at _) (swapped_heads c.self.inside.items.items (heads_of c.self.inside.items.items) c.self.invariant.0 c.args.head (rw (← c.self.view_is)
    at c.requires.known) c.index.result.now c.index.ensures c.args.i c.args.j c.place_of.result c.place_of-2.result c.index-a.result.now c.index-b.result.now
    (rw (← c.self.view_is) at c.requires.first) (rw (← c.self.view_is) at c.requires.second)
    c.place_of.ensures c.place_of-2.ensures c.index-a.ensures c.index-b.ensures).found
    ∙ swapped_clauses c.self.inside.items.items (heads_of c.self.inside.items.items) c.self.invariant.0 c.args.head (rw (← c.self.view_is) at c.requires.known)
    c.index.result.now c.index.ensures c.args.i c.args.j c.place_of.result c.place_of-2.result c.index-a.result.now c.index-b.result.now
    (rw (← c.self.view_is) at c.requires.first) (rw (← c.self.view_is) at c.requires.second)
    c.place_of.ensures c.place_of-2.ensures c.index-a.ensures c.index-b.ensures)

pub returns-clause-heads : goal.returns-clause-heads
returns-clause-heads c =
    rw (← c.self.view_is)
    (swapped_heads c.self.inside.items.items (heads_of c.self.inside.items.items) c.self.invariant.0 c.args.head (rw (← c.self.view_is) at c.requires.known)
    c.index.result.now c.index.ensures c.args.i c.args.j c.place_of.result c.place_of-2.result c.index-a.result.now c.index-b.result.now
    (rw (← c.self.view_is) at c.requires.first) (rw (← c.self.view_is) at c.requires.second)
    c.place_of.ensures c.place_of-2.ensures c.index-a.ensures c.index-b.ensures).found

pub returns-clause-names : goal.returns-clause-names
returns-clause-names c =
    rw (← c.self.view_is)
    (ap (names_at _) (swapped_heads c.self.inside.items.items (heads_of c.self.inside.items.items) c.self.invariant.0 c.args.head (rw (← c.self.view_is)
    at c.requires.known) c.index.result.now c.index.ensures c.args.i c.args.j c.place_of.result c.place_of-2.result c.index-a.result.now c.index-b.result.now
    (rw (← c.self.view_is) at c.requires.first) (rw (← c.self.view_is) at c.requires.second)
    c.place_of.ensures c.place_of-2.ensures c.index-a.ensures c.index-b.ensures).found
    ∙ swapped_names c.self.inside.items.items (heads_of c.self.inside.items.items) c.self.invariant.0 c.args.head (rw (← c.self.view_is) at c.requires.known)
    c.index.result.now c.index.ensures c.args.i c.args.j c.place_of.result c.place_of-2.result c.index-a.result.now c.index-b.result.now
    (rw (← c.self.view_is) at c.requires.first) (rw (← c.self.view_is) at c.requires.second)
    c.place_of.ensures c.place_of-2.ensures c.index-a.ensures c.index-b.ensures)

pub index_mut-requires : goal.index_mut-requires
index_mut-requires c = omega (
  arith,
  literal_inside c.self.inside.items.items (heads_of c.self.inside.items.items) c.self.invariant.0 c.args.head (rw (← c.self.view_is) at c.requires.known)
      c.index.result.now c.index.ensures c.args.i c.place_of.result (rw (← c.self.view_is) at c.requires.first) c.place_of.ensures,
)

pub index_mut-requires-2 : goal.index_mut-requires-2
index_mut-requires-2 c =
    let inside = literal_inside c.self.inside.items.items (heads_of c.self.inside.items.items) c.self.invariant.0 c.args.head
    (rw (← c.self.view_is) at c.requires.known) c.index.result.now c.index.ensures c.args.j c.place_of-2.result (rw (← c.self.view_is) at c.requires.second)
    c.place_of-2.ensures in
    omega (arith, inside, length-set c.self.inside.items.items (c.args.head + 2 + c.place_of.result) c.index-b.result.now)
