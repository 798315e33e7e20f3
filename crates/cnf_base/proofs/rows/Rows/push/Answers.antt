use Rattle.std.proofs.Common.{◌++◌, ◌∷◌, [], subst, arith}
use Rattle.cnf_base.specs.RowPieces.{AreTiles, places_of}
use Rattle.cnf_base.proofs.RowEnds.{tiles_more, rows_more}
use Rattle.cnf_base.proofs.rows.Rows.push.Goals as goal

pub invariant_of-self-in-Ok : goal.invariant_of-self-in-Ok
invariant_of-self-in-Ok g c =
    let items = c.self.inside.items.items in
    let ends = c.self.inside.ends.items in
    rw (c.in-Ok.ensures)
    (subst (AreTiles 0 (places_of 0 (ends ++ c.len.result ∷ []))) (omega (arith, c.len.ensures))
    (tiles_more items ends c.self.invariant c.args.row.now c.len.result (omega (arith, c.len.ensures, c.in_ok-extend_from_slice.ensures.len))))

pub returns-in-Ok : goal.returns-in-Ok
returns-in-Ok g c =
    rw (c.in-Ok.ensures, c.in_ok-extend_from_slice.ensures.items, ← c.self.view_is)
    (rows_more c.self.inside.items.items c.self.inside.ends.items c.self.invariant c.args.row.now c.len.result
    (omega (arith, c.len.ensures, c.in_ok-extend_from_slice.ensures.len)))
