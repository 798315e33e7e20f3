use Rattle.std.proofs.Common.{sym}
use Rattle.std.proofs.lemmas.List.{take-map}
use Rattle.cdcl_trail.specs.Entries.{literal_of, reason_of}
use Rattle.cdcl_trail.specs.declared.assigned.TrailEntry.{TrailEntry}
use Rattle.cdcl_trail.specs.declared.entries.Packed.{Packed}
use Rattle.cdcl_trail.proofs.entries.Entries.truncate.Goals as goal

pub returns : goal.returns
returns c =
    let f : Packed → TrailEntry = λ p. record { literal = literal_of p.literal; level = p.level; reason = reason_of p.reason } in
    rw (c.truncate.ensures.items, ← c.self.view_is) (sym (take-map f c.args.count c.self.inside.items.items))
