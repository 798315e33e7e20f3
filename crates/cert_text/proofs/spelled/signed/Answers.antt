use Rattle.std.proofs.Common.{rules, ◌-◌, ◌∷◌, length, take, drop, refl}
use Rattle.std.specs.Prelude.{decimal}
use Rattle.cert_text.proofs.Slices.{minus_digits, plain_digits, behind_space}
use Rattle.cert_text.proofs.spelled.signed.Goals as goal

-- behind a minus sign
pub slice_bounds-result-count : goal.slice_bounds-result-count
slice_bounds-result-count c =
    let it = c.requires in
    let digits = (minus_digits c.args.bytes.now it.negated it.number it.more it.fits it.spelled c.if-bytes-eq45.true).1 in
    let read = c.number-value.ensures.value it.number (32 ∷ it.more) it.fits digits refl in
    (behind_space (take (length c.args.bytes.now - 1) (drop 1 c.args.bytes.now)) (decimal it.number) it.more c.number-value.result.1 digits read.1).0

pub slice_bounds-result-start : goal.slice_bounds-result-start
slice_bounds-result-start c =
    let it = c.requires in
    let digits = (minus_digits c.args.bytes.now it.negated it.number it.more it.fits it.spelled c.if-bytes-eq45.true).1 in
    let read = c.number-value.ensures.value it.number (32 ∷ it.more) it.fits digits refl in
    let low =
    (behind_space (take (length c.args.bytes.now - 1) (drop 1 c.args.bytes.now)) (decimal it.number) it.more c.number-value.result.1 digits read.1).0 in
    search (rules, low)

pub returns-then-bytes-eq45 : goal.returns-then-bytes-eq45
returns-then-bytes-eq45 c b n more few is =
    let minus = minus_digits c.args.bytes.now b n more few is c.if-bytes-eq45.true in
    let read = c.number-value.ensures.value n (32 ∷ more) few minus.1 refl in
    (minus.0, read.0, (behind_space (take (length c.args.bytes.now - 1) (drop 1 c.args.bytes.now)) (decimal n) more c.number-value.result.1 minus.1 read.1).1)

-- without a sign
pub slice_bounds-result-count-2 : goal.slice_bounds-result-count-2
slice_bounds-result-count-2 c =
    let it = c.requires in
    let digits = (plain_digits c.args.bytes.now it.negated it.number it.more it.fits it.spelled c.if-bytes-eq45.false).1 in
    let read = c.number-value-2.ensures.value it.number (32 ∷ it.more) it.fits digits refl in
    (behind_space c.args.bytes.now (decimal it.number) it.more c.number-value-2.result.1 digits read.1).0

pub slice_bounds-result-start-2 : goal.slice_bounds-result-start-2
slice_bounds-result-start-2 c =
    let it = c.requires in
    let digits = (plain_digits c.args.bytes.now it.negated it.number it.more it.fits it.spelled c.if-bytes-eq45.false).1 in
    let read = c.number-value-2.ensures.value it.number (32 ∷ it.more) it.fits digits refl in
    let low = (behind_space c.args.bytes.now (decimal it.number) it.more c.number-value-2.result.1 digits read.1).0 in
    search (rules, low)

pub returns : goal.returns
returns c b n more few is =
    let plain = plain_digits c.args.bytes.now b n more few is c.if-bytes-eq45.false in
    let read = c.number-value-2.ensures.value n (32 ∷ more) few plain.1 refl in
    (plain.0, read.0, (behind_space c.args.bytes.now (decimal n) more c.number-value-2.result.1 plain.1 read.1).1)
