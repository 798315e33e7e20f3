use Rattle.std.proofs.Common.{◌≡◌, true, false, List, [], ◌∷◌, refl}
use Rattle.std.proofs.lemmas.Bool.Decides.{not_from_Decides}
use Rattle.cnf_base.specs.declared.literal.Literal.{Literal}
use Rattle.cnf_base.specs.declared.literal.Hint.{Hint}
use Rattle.cnf_base.specs.declared.literal.Hint.TheVariants.{Clause, Line}
use Rattle.cnf_base.specs.Worked.{plus, minus, clauses_of_false, IsStep}
use Rattle.cnf_base.proofs.Deciding.{is_hinted_step, Decides-hinted_step}
use Rattle.cnf_base.proofs.laws.worked_steps.Goals as goal

is_step : (lines : List (List Literal)) (clause : List Literal) (hints : List Hint)
    → is_hinted_step clauses_of_false lines 6 clause hints ≡ true → IsStep lines clause hints
is_step lines clause hints = (Decides-hinted_step clauses_of_false lines 6 clause hints).0

is_none : (lines : List (List Literal)) (clause : List Literal) (hints : List Hint)
    → is_hinted_step clauses_of_false lines 6 clause hints ≡ false → ¬ IsStep lines clause hints
is_none lines clause hints = not_from_Decides (is_hinted_step clauses_of_false lines 6 clause hints) (Decides-hinted_step clauses_of_false lines 6 clause hints)

pub returns : goal.returns
returns c = record {
  two_one = is_step [] (minus 2 ∷ []) (Clause 2 ∷ Clause 1 ∷ []) refl;
  one_two = is_step [] (minus 2 ∷ []) (Clause 1 ∷ Clause 2 ∷ []) refl;
  repeated = is_step [] (minus 2 ∷ minus 2 ∷ []) (Clause 2 ∷ Clause 1 ∷ []) refl;
  earlier = is_step ((minus 6 ∷ []) ∷ []) (minus 2 ∷ []) (Clause 2 ∷ Line 1 ∷ []) refl;
  no_hints = is_none [] (minus 2 ∷ []) [] refl;
  open_end = is_none [] (minus 2 ∷ []) (Clause 2 ∷ []) refl;
  early_end = is_none [] (minus 2 ∷ []) (Clause 2 ∷ Clause 1 ∷ Clause 1 ∷ []) refl;
  not_unit = is_none [] (minus 2 ∷ []) (Clause 2 ∷ Clause 3 ∷ Clause 1 ∷ []) refl;
  already_true = is_none [] (minus 2 ∷ []) (Clause 2 ∷ Clause 2 ∷ Clause 1 ∷ []) refl;
  complementary = is_none [] (plus 2 ∷ minus 2 ∷ []) (Clause 2 ∷ Clause 1 ∷ []) refl;
  unknown_letter = is_none [] (minus 2 ∷ plus 7 ∷ []) (Clause 2 ∷ Clause 1 ∷ []) refl;
  letter_zero = is_none [] (minus 2 ∷ plus 0 ∷ []) (Clause 2 ∷ Clause 1 ∷ []) refl;
  names_itself = is_none [] (minus 2 ∷ []) (Clause 2 ∷ Line 1 ∷ []) refl;
  number_zero = is_none [] (minus 2 ∷ []) (Clause 2 ∷ Clause 0 ∷ []) refl;
  number_four = is_none [] (minus 2 ∷ []) (Clause 2 ∷ Clause 4 ∷ []) refl;
  unknown_line = is_none ((plus 7 ∷ []) ∷ []) (minus 2 ∷ []) (Line 1 ∷ Clause 2 ∷ Clause 1 ∷ []) refl;
  line_of_zero = is_none ((plus 0 ∷ []) ∷ []) (minus 2 ∷ []) (Line 1 ∷ Clause 2 ∷ Clause 1 ∷ []) refl;
}
