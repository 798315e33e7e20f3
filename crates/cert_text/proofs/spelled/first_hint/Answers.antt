use Rattle.std.proofs.Common.{true, false, sym, ◌∙◌}
use Rattle.std.specs.List.{flat_map}
use Rattle.cert_text.specs.Text.{hint_text}
use Rattle.cert_text.proofs.Slices.{front_hint, signed_hint, after_hint}
use Rattle.cert_text.proofs.spelled.first_hint.Goals as goal

pub signed-negated-requires : goal.signed-negated-requires
signed-negated-requires c = signed_hint c.args.bytes.now (front_hint c.args.bytes.now c.requires.hints c.requires.some)

pub returns-then-negated-clause-rest : goal.returns-then-negated-clause-rest
returns-then-negated-clause-rest c =
    let f = front_hint c.args.bytes.now c.requires.hints c.requires.some in
    let read = c.signed-negated.ensures f.negated f.number (flat_map hint_text f.others) f.fits.1 f.spelled in
    (after_hint c.args.bytes.now c.signed-negated.result.2.now f true c.signed-negated.result.1 (sym c.if-negated.true ∙ read.0) read.1 read.2).0

pub returns-then-negated-clause-value : goal.returns-then-negated-clause-value
returns-then-negated-clause-value c =
    let f = front_hint c.args.bytes.now c.requires.hints c.requires.some in
    let read = c.signed-negated.ensures f.negated f.number (flat_map hint_text f.others) f.fits.1 f.spelled in
    (after_hint c.args.bytes.now c.signed-negated.result.2.now f true c.signed-negated.result.1 (sym c.if-negated.true ∙ read.0) read.1 read.2).1

pub returns-else-negated-clause-rest : goal.returns-else-negated-clause-rest
returns-else-negated-clause-rest c =
    let f = front_hint c.args.bytes.now c.requires.hints c.requires.some in
    let read = c.signed-negated.ensures f.negated f.number (flat_map hint_text f.others) f.fits.1 f.spelled in
    (after_hint c.args.bytes.now c.signed-negated.result.2.now f false c.signed-negated.result.1 (sym c.if-negated.false ∙ read.0) read.1 read.2).0

pub returns-else-negated-clause-value : goal.returns-else-negated-clause-value
returns-else-negated-clause-value c =
    let f = front_hint c.args.bytes.now c.requires.hints c.requires.some in
    let read = c.signed-negated.ensures f.negated f.number (flat_map hint_text f.others) f.fits.1 f.spelled in
    (after_hint c.args.bytes.now c.signed-negated.result.2.now f false c.signed-negated.result.1 (sym c.if-negated.false ∙ read.0) read.1 read.2).1
