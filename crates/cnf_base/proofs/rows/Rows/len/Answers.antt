use Rattle.std.proofs.Common.{length, ap, arith}
use Rattle.cnf_base.proofs.RowEnds.{rows_len}
use Rattle.cnf_base.proofs.rows.Rows.len.Goals as goal

pub returns : goal.returns
returns g c =
    omega (arith, c.len.ensures, rows_len c.self.inside.items.items c.self.inside.ends.items, ap length c.self.view_is)
