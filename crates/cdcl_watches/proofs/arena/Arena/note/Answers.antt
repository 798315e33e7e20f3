use Rattle.cdcl_watches.specs.Heads.{heads_of}
use Rattle.cdcl_watches.proofs.Noted.{noted_roomier, noted_set}
use Rattle.cdcl_watches.proofs.arena.Arena.note.Goals.{then-letter-len, else-letter-len}
use Rattle.cdcl_watches.proofs.arena.Arena.note.Goals as goal

pub invariant_of-self : goal.invariant_of-self
invariant_of-self c =
    let heads = heads_of c.self.inside.items.items in
    let old = c.self.inside.reasons.items in
    elim c.if-letter-len.branch [
      | then-letter-len w ↦
          let new = w.make_room.new.reasons.items in
          let roomier = noted_roomier heads old new w.make_room.ensures.0 w.make_room.ensures.1 c.self.invariant.1 in
          rw w.self-inside-is (c.self.invariant.0, noted_set heads new c.args.letter c.args.head (rw (← c.self.view_is) at c.requires) roomier)
      | else-letter-len w ↦
          rw w.self-inside-is (c.self.invariant.0, noted_set heads old c.args.letter c.args.head (rw (← c.self.view_is) at c.requires) c.self.invariant.1)
    ]

pub invariant_of-self-else-letter-len-2 : goal.invariant_of-self-else-letter-len-2
invariant_of-self-else-letter-len-2 c =
    let heads = heads_of c.self.inside.items.items in
    let old = c.self.inside.reasons.items in
    elim c.if-letter-len.branch [
      | then-letter-len w ↦ rw w.self-inside-is
          (c.self.invariant.0, noted_roomier heads old w.make_room.new.reasons.items w.make_room.ensures.0 w.make_room.ensures.1 c.self.invariant.1)
      | else-letter-len w ↦ rw w.self-inside-is c.self.invariant
    ]
