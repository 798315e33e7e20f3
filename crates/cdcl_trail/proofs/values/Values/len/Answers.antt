use Rattle.std.proofs.Common.{length, ap, arith}
use Rattle.cdcl_trail.proofs.Told.{length_values}
use Rattle.cdcl_trail.proofs.values.Values.len.Goals as goal

pub returns : goal.returns
returns c = omega (arith, c.len.ensures, length_values c.self.inside.truths.items, ap length c.self.view_is)
