use Rattle.std.specs.Prelude.{refl}
use Rattle.depast.proofs.laws.worked_removals.Goals as goal

pub returns : goal.returns
returns c = record { name = refl; yesterday = refl; once = refl }
