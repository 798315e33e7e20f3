use Rattle.std.proofs.Common.{◌≡◌, ◌<◌, ◌-◌, ◌+◌, ◌∷◌, [], suc, length, set, arith, ap, subst, sym, length-append}
use Rattle.cnf_base.specs.RowPieces.{AreTiles, places_of}
use Rattle.cnf_base.proofs.RowEnds.{rows_len, tiles_longer, rows_longer}
use Rattle.cnf_base.proofs.rows.Rows.lengthen.Goals as goal

pub invariant_of-self-2 : goal.invariant_of-self-2
invariant_of-self-2 g c =
    let items = c.self.inside.items.items in
    let ends = c.self.inside.ends.items in
    let grown = length-append items (c.args.item ∷ []) in
    let end : c.len-2.result ≡ length items + 1 = omega (arith, grown, c.len-2.ensures, ap length c.in_ok-push.ensures.items) in
    let some = subst (λ rows. 0 < length rows) (sym c.self.view_is) c.requires in
    let last : suc (c.len-last.result - 1) ≡ length ends = omega (arith, some, c.len-last.ensures, rows_len items ends) in
    rw c.in_ok-push.ensures.items
    (subst (AreTiles 0 (places_of 0 (set ends (c.len-last.result - 1) c.len-2.result))) (omega (arith, end, grown))
    (tiles_longer items ends c.self.invariant c.args.item (c.len-last.result - 1) c.len-2.result last end))

pub returns : goal.returns
returns g c =
    let items = c.self.inside.items.items in
    let ends = c.self.inside.ends.items in
    let grown = length-append items (c.args.item ∷ []) in
    let end : c.len-2.result ≡ length items + 1 = omega (arith, grown, c.len-2.ensures, ap length c.in_ok-push.ensures.items) in
    let some = subst (λ rows. 0 < length rows) (sym c.self.view_is) c.requires in
    let last : suc (c.len-last.result - 1) ≡ length ends = omega (arith, some, c.len-last.ensures, rows_len items ends) in
    rw (c.in_ok-push.ensures.items, ← c.self.view_is)
    (rows_longer items ends c.self.invariant c.args.item (c.len-last.result - 1) c.len-2.result last end)
