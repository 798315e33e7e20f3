use Rattle.std.proofs.Common.{refl}
use Rattle.claim_reading.proofs.laws.worked.Goals as goal

pub returns : goal.returns
returns c = record { never = refl; layers = refl; ending = refl; one = refl; none = refl; large = refl }
