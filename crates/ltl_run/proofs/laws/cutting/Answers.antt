use Rattle.ltl_run.proofs.Shorter.{cutting, cutting_last}
use Rattle.ltl_run.proofs.laws.cutting.Goals as goal

pub returns : goal.returns
returns c f k j i r run lt le one = (cutting f k r run j i lt le one, cutting_last f k r run j i lt le one)
