use Rattle.std.specs.Prelude.{refl}
use Rattle.requirement_questions.proofs.laws.worked_questions.Goals as goal

pub returns : goal.returns
returns c = record {
  nothing = refl;
  one = refl;
  three = refl;
  chosen_two = refl;
  left_out = refl;
  is_marked = refl;
  triggered = refl;
  always_alone = refl;
  implies_alone = refl;
  replaced = refl;
}
