use Rattle.std.proofs.Common.{◌-◌, ◌<◌, ◌≤◌, length, arith}
use Rattle.cert_text.proofs.Skips.{number_short}
use Rattle.cert_text.proofs.skipping.number_end.Goals as goal

pub returns : goal.returns
returns c =
    let bytes = c.args.bytes.now in
    let from = c.sign_end-start.result in
    let end = c.digits_end-end.result in
    let some : from < end = omega (arith, c.digits_end-end.ensures.from, c.if-end-start.false) in
    let inside : end < length bytes = omega (arith, c.digits_end-end.ensures.within, c.if-end-bytes.false) in
    let few : end - from ≤ c.args.most = omega (arith, c.if-end-start-2.false) in (
      omega (arith, c.sign_end-start.ensures.from, some),
      omega (arith, inside),
      number_short bytes c.args.at from end c.args.most c.sign_end-start.ensures.from some inside c.requires.few few c.sign_end-start.ensures.sign
          c.digits_end-end.ensures.digits c.if-bytes-start-eq48.false
          c.if-bytes-end-ne32.false,
    )
