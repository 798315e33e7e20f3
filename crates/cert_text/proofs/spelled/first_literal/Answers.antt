use Rattle.std.proofs.Common.{arith}
use Rattle.std.specs.List.{flat_map}
use Rattle.cert_text.specs.Text.{literal_text}
use Rattle.cert_text.proofs.Slices.{front_literal, signed_literal, after_literal}
use Rattle.cert_text.proofs.spelled.first_literal.Goals as goal

pub signed-negated-requires : goal.signed-negated-requires
signed-negated-requires c = signed_literal c.args.bytes.now (front_literal c.args.bytes.now c.requires.literals c.requires.some)

pub overflow_cast-literal : goal.overflow_cast-literal
overflow_cast-literal c =
    let f = front_literal c.args.bytes.now c.requires.literals c.requires.some in
    let read = c.signed-negated.ensures f.first.negated f.first.letter.0 (flat_map literal_text f.others) (omega (arith, f.fits.1)) f.spelled in
    omega (arith, read.1, f.fits.1)

pub returns-clause-rest : goal.returns-clause-rest
returns-clause-rest c =
    let f = front_literal c.args.bytes.now c.requires.literals c.requires.some in
    let read = c.signed-negated.ensures f.first.negated f.first.letter.0 (flat_map literal_text f.others) (omega (arith, f.fits.1)) f.spelled in
    (after_literal c.args.bytes.now c.signed-negated.result.2.now f c.signed-negated.result.0 c.signed-negated.result.1 read.0 read.1 read.2).0

pub returns-clause-value : goal.returns-clause-value
returns-clause-value c =
    let f = front_literal c.args.bytes.now c.requires.literals c.requires.some in
    let read = c.signed-negated.ensures f.first.negated f.first.letter.0 (flat_map literal_text f.others) (omega (arith, f.fits.1)) f.spelled in
    (after_literal c.args.bytes.now c.signed-negated.result.2.now f c.signed-negated.result.0 c.signed-negated.result.1 read.0 read.1 read.2).1
