use Rattle.std.proofs.Common.{refl}
use Rattle.depast.proofs.Rows.{reads_more}
use Rattle.depast.proofs.axiom_row.put_end.Goals as goal

pub returns : goal.returns
returns c l a b d e f r s h =
    reads_more l c.args.axioms.now.items _ c.extend_from_slice.new.self.items r _ _ c.in_ok-extend_from_slice.ensures.items h (tt, (tt, refl))
