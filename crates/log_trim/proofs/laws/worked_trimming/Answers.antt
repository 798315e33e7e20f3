use Rattle.std.specs.Prelude.{refl}
use Rattle.log_trim.proofs.laws.worked_trimming.Goals as goal

pub returns : goal.returns
returns c = record { lines = refl; numbers = refl }
