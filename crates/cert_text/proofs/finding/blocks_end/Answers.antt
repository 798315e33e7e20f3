use Rattle.std.proofs.Common.{◌+◌, refl, arith}
use Rattle.cert_text.proofs.Noughts.{none_more}
use Rattle.cert_text.proofs.finding.blocks_end.Goals as goal

pub blocks-2-preserved : goal.blocks-2-preserved
blocks-2-preserved c = (
  omega (arith, c.blocks-2.invariant.0),
  omega (arith, c.blocks-2.invariant.1, c.blocks-2-test.true),
  none_more c.args.line.now 1 c.blocks-2.end (c.blocks-2.end + 16) c.blocks-2.invariant.2 (c.if-has_no_nought.ensures refl),
)
