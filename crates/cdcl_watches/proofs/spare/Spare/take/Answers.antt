use Rattle.std.proofs.Common.{◌≡◌, ℕ, ◌-◌, ◌<◌, List, length, take, ap, ◌∙◌, arith, Vec, Global}
use Rattle.cdcl_watches.proofs.ListEdits.{row_edited, row_other}
use Rattle.cdcl_watches.proofs.spare.Spare.take.Goals as goal

abbrev items_of : Vec ℕ Global → List ℕ
items_of v = v.items

pub returns-clause-row : goal.returns-clause-row
returns-clause-row c =
    let low : c.args.class < length c.self.inside.rows.items = omega (arith, c.len.ensures, c.if-class-len.false) in
    let row = c.index_mut.result.now in
    let count : row.len ≡ length (items_of row) = omega arith in
    rw (← c.self.view_is) (row_edited items_of c.self.inside.rows.items c.args.class (λ xs. take (length xs - 1) xs)
    c.pop.new.self row low c.index_mut.ensures.value (c.pop.ensures.rest ∙ ap (λ n. take (n - 1) (items_of row)) count))

pub returns-clause-others : goal.returns-clause-others
returns-clause-others c d off = rw (← c.self.view_is) (row_other items_of c.self.inside.rows.items c.args.class d c.pop.new.self off)
