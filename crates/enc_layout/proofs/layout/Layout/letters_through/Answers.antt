use Rattle.enc_layout.proofs.ByKind.{through_before}
use Rattle.std.proofs.Common.{◌∙◌}
use Rattle.enc_layout.proofs.layout.Layout.letters_through.Goals as goal

pub returns : goal.returns
returns c = c.letters_before.ensures.count ∙ through_before _ _ _
