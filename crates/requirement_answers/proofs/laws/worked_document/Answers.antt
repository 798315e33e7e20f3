use Rattle.std.proofs.Common.{refl}
use Rattle.requirement_answers.proofs.laws.worked_document.Goals as goal

pub returns : goal.returns
returns c = record {
  given = refl;
  aside = refl;
  all = refl;
  fewer = refl;
  of_one = refl;
  of_behaviour = refl;
  behaviours = refl;
  other = refl;
  others = refl;
  new = refl;
  triggered = refl;
  possible = refl;
  follows = refl;
  together = refl;
}
