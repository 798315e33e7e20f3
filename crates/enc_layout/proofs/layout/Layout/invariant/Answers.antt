use Rattle.std.proofs.Common.{subst}
use Rattle.enc_layout.specs.Letters.{Fits}
use Rattle.enc_layout.proofs.Fitting.{first_fits}
use Rattle.enc_layout.proofs.layout.Layout.invariant.Goals as goal

pub returns : goal.returns
returns c = subst (λ l. Fits l 0) c.self.view_is (first_fits _ c.self.invariant)
