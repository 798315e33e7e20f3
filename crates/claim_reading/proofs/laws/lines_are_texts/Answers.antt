use Rattle.claim_reading.proofs.Texts.{lines_are_texts}
use Rattle.claim_reading.proofs.laws.lines_are_texts.Goals as goal

pub returns : goal.returns
returns c = lines_are_texts
