use Rattle.std.specs.Prelude.{refl}
use Rattle.demand.proofs.laws.worked_looks.Goals as goal

pub returns : goal.returns
returns c = record {
  first_place = refl;
  no_place = refl;
  by_end = refl;
  by_loop = refl;
  not_fulfilled = refl;
  not_equal = refl;
  nearest_loop = refl;
  farther_loop = refl;
  finite_end = refl;
  finite_request = refl;
  third_time = refl;
  second_time = refl;
  something_new = refl;
  finite_pair = refl;
  finite_none = refl;
}
