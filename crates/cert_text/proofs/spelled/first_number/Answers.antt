use Rattle.std.proofs.Common.{◌-◌, length, take, drop}
use Rattle.std.specs.Prelude.{decimal}
use Rattle.std.specs.List.{flat_map}
use Rattle.cert_text.specs.Text.{target_text}
use Rattle.cert_text.proofs.Slices.{front_number, behind_number, after_number}
use Rattle.cert_text.proofs.spelled.first_number.Goals as goal

pub returns-clause-rest : goal.returns-clause-rest
returns-clause-rest c =
    let f = front_number c.args.bytes.now c.requires.numbers c.requires.some in
    let read = c.number-value.ensures.value f.first (flat_map target_text f.others) f.fits.1 f.spelled f.ends in
    (after_number c.args.bytes.now _ f c.number-value.result.0 read.0 (behind_number (take (length c.args.bytes.now - 1) (drop 1 c.args.bytes.now))
    (decimal f.first) (flat_map target_text f.others) c.number-value.result.1 f.spelled read.1)).0

pub returns-clause-value : goal.returns-clause-value
returns-clause-value c =
    let f = front_number c.args.bytes.now c.requires.numbers c.requires.some in
    let read = c.number-value.ensures.value f.first (flat_map target_text f.others) f.fits.1 f.spelled f.ends in
    (after_number c.args.bytes.now _ f c.number-value.result.0 read.0 (behind_number (take (length c.args.bytes.now - 1) (drop 1 c.args.bytes.now))
    (decimal f.first) (flat_map target_text f.others) c.number-value.result.1 f.spelled read.1)).1
