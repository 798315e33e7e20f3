use Rattle.std.proofs.Common.{◌<◌, ◌≤◌, length, sym, ap, arith}
use Rattle.std.proofs.lemmas.List.{take_all}
use Rattle.cnf_base.proofs.RowEnds.{rows_len, tiles_front, rows_front}
use Rattle.cnf_base.proofs.rows.Rows.truncate.Goals as goal

pub returns-then-count-len : goal.returns-then-count-len
returns-then-count-len g c =
    let rows : length c.args.self.now ≤ c.args.count =
    omega (arith, c.if-count-len.true, c.len.ensures, ap length c.self.view_is, rows_len c.self.inside.items.items c.self.inside.ends.items) in
    sym (take_all c.args.count c.args.self.now rows)

pub invariant_of-self : goal.invariant_of-self
invariant_of-self g c =
    let low : c.args.count < length c.self.inside.ends.items = omega (arith, c.if-count-len.false, c.len.ensures) in
    rw (c.truncate-2.ensures.items, c.truncate.ensures.items, c.start-end.ensures)
    (tiles_front c.self.inside.items.items c.self.inside.ends.items c.self.invariant c.args.count low)

pub returns : goal.returns
returns g c =
    let low : c.args.count < length c.self.inside.ends.items = omega (arith, c.if-count-len.false, c.len.ensures) in
    rw (c.truncate-2.ensures.items, c.truncate.ensures.items, c.start-end.ensures, ← c.self.view_is)
    (rows_front c.self.inside.items.items c.self.inside.ends.items c.self.invariant c.args.count low)
