use Rattle.std.proofs.Common.{◌≤◌, arith}
use Rattle.cert_text.proofs.Skips.{short_more}
use Rattle.cert_text.proofs.skipping.numbers_end.Goals as goal

pub numbers-preserved : goal.numbers-preserved
numbers-preserved c =
    let on = c.in-Some.ensures in
    let low : c.numbers.end ≤ c.in-Some.next = omega (arith, on.0) in (
      omega (
        arith,
        c.numbers.invariant.0,
        low,
      ),
      on.1,
      short_more c.args.bytes.now c.args.at c.numbers.end c.in-Some.next c.args.most c.numbers.invariant.0 low c.numbers.invariant.2 on.2,
    )
