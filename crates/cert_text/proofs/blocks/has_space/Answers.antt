use Rattle.std.proofs.Common.{ℕ, refl}
use Rattle.std.proofs.lemmas.Simd.{length-chunk, zip2_splat}
use lib.Lanes.{chunk}
use Rattle.cert_text.proofs.InOrder.{spaced, positive}
use Rattle.cert_text.proofs.blocks.has_space.Goals as goal

pub returns : goal.returns
returns c = λ is.
    let bytes = c.args.bytes.now in
    spaced bytes c.args.at c.requires c.type_inv.bytes _ _ (zip2_splat {Y = ℕ} _ (chunk c.args.at 8 bytes) 8 32 (length-chunk c.args.at 8 bytes c.requires))
    refl (positive _ is)
