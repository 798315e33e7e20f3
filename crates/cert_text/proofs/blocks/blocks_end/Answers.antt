use Rattle.std.proofs.Common.{◌+◌, refl, arith}
use Rattle.cert_text.proofs.Between.{order_more, spaced_more}
use Rattle.cert_text.proofs.blocks.blocks_end.Goals as goal

pub blocks-2-preserved : goal.blocks-2-preserved
blocks-2-preserved c =
    let end = c.blocks-2.end in (
      omega (arith, c.blocks-2.invariant.0),
      omega (arith, c.blocks-2.invariant.1, c.blocks-2-test.true),
      order_more c.args.bytes.now c.args.at end (end + 16) c.blocks-2.invariant.2 (c.if-is_in_order.ensures refl),
      spaced_more c.args.bytes.now c.args.at end c.blocks-2.invariant.3 (c.if-has_space.ensures refl) (c.if-has_space-2.ensures refl),
    )
