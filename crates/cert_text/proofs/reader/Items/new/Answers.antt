use Rattle.std.proofs.Common.{arith}
use Rattle.cert_text.proofs.ItemTexts.{reading_all, reading_new}
use Rattle.cert_text.proofs.reader.Items.new.Goals as goal

pub invariant_of-result : goal.invariant_of-result
invariant_of-result c =
    reading_all c.args.bytes.now c.requires.0 c.find-at.result c.requires.1
    (λ before word more other is none. (let e = c.find-at.ensures.first before word more other is none in omega (arith, e)))

pub returns : goal.returns
returns c =
    reading_new c.args.bytes.now c.requires.0 c.find-at.result c.requires.1
    (λ before word more other is none. (let e = c.find-at.ensures.first before word more other is none in omega (arith, e)))
