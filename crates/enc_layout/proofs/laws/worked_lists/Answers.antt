use Rattle.std.specs.Prelude.{refl}
use Rattle.enc_layout.proofs.laws.worked_lists.Goals as goal

pub returns-clause-lists : goal.returns-clause-lists
returns-clause-lists c = record { weak_false = refl; strong_false = refl; just_false = refl }

pub returns-clause-counts : goal.returns-clause-counts
returns-clause-counts c = record {
  letters_false = refl;
  letters_weak = refl;
  letters_strong = refl;
  counts_four = refl;
  letters_four = refl;
  counts_two = refl;
  letters_two = refl;
  counts_nine = refl;
  within_limit = refl;
  beyond_limit = refl;
}
