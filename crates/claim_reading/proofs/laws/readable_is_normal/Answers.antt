use Rattle.claim_reading.proofs.Readable.{readable_normal}
use Rattle.claim_reading.proofs.laws.readable_is_normal.Goals as goal

pub returns : goal.returns
returns c = readable_normal
