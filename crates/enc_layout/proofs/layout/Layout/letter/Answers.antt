use Rattle.std.proofs.Common.{arith}
use Rattle.enc_layout.specs.Parts.{meaning_of}
use Rattle.enc_layout.proofs.Numbers.{number_within}
use Rattle.enc_layout.proofs.layout.Layout.letter.Goals as goal

pub overflow_cast-result : goal.overflow_cast-result
overflow_cast-result c =
    let w = number_within c.args.self.now.kind c.args.self.now.counts c.args.step (meaning_of c.args.step c.args.part) c.requires.known in
    let r = c.requires.fits in
    omega arith
