-- What the values of the letters say of the trail, and the trail of them.
use Rattle.std.proofs.Common.{◌≡◌, MatchOption, ℕ, zero, suc, List, [], Bool, true, false, not, Option, Some, None, All, Contains, refl, sym, ap}
use Rattle.std.proofs.Common.{◌∙◌, subst}
use Rattle.std.proofs.lemmas.Option.{get_or_from_slice_get, slice_get_within}
use Rattle.std.proofs.lemmas.List.Elements.{All-map, All-contains}
use Rattle.cnf_base.specs.declared.literal.Literal.{Literal}
use Rattle.cnf_base.specs.declared.literal.Hint.{Hint}
use Rattle.cnf_base.specs.declared.literal.Hint.TheVariants.{Clause, Line}
use Rattle.cnf_base.specs.Literal.{opposite}
use Rattle.cnf_base.specs.Step.{named, numbered}
use Rattle.cnf_base.proofs.SameLiteral.{not_not}
use Rattle.cdcl_trail.specs.Values.{value_at, IsFalseLiteral, HasNoValue}
use mathlib.Core.Bool.{false≢true}
use Rattle.cdcl_trail.specs.Trail.{literals_of, IsUnset, AreValues}
use Rattle.cdcl_trail.specs.declared.assigned.TrailEntry.{TrailEntry}

-- what holds of each clause holds of the one of a number
numbered_has : (P : List Literal → Type 0) (clauses : List (List Literal)) (n : ℕ) (clause : List Literal) → All P clauses
    → numbered clauses n ≡ Some clause → P clause
numbered_has P clauses zero clause holds is = cc
numbered_has P clauses (suc n) clause holds is = subst P (get_or_from_slice_get clauses n clause [] is) (holds n [] (slice_get_within clauses n clause is))

pub named_has : (P : List Literal → Type 0) (inputs lines : List (List Literal)) (hint : Hint) (clause : List Literal) → All P inputs → All P lines
    → named inputs lines hint ≡ Some clause → P clause
named_has P inputs lines (Clause n) clause of_inputs of_lines is = numbered_has P inputs n clause of_inputs is
named_has P inputs lines (Line n) clause of_inputs of_lines is = numbered_has P lines n clause of_lines is

module _ (values : List (Option Bool)) (trail : List TrailEntry) (are : AreValues values trail) where
  pub false_on : (l : Literal) → IsFalseLiteral values l → Contains (literals_of trail) (opposite l)
  false_on l h = are.on_trail (opposite l) (h.is ∙ ap Some (sym (not_not l.negated)))

  pub true_value : (l : Literal) → Contains (literals_of trail) l → value_at values l.letter.0 ≡ Some (not l.negated)
  true_value l there =
      let P : Literal → Type 0 = λ m. value_at values m.letter.0 ≡ Some (not m.negated) in
      All-contains P (literals_of trail) l (All-map P (λ e. e.literal) trail are.true_on) there

  pub false_value : (l : Literal) → Contains (literals_of trail) (opposite l) → IsFalseLiteral values l
  false_value l there = record { is = true_value (opposite l) there ∙ ap Some (not_not l.negated) }

  pub none_from_unset : (l : Literal) → IsUnset (literals_of trail) l → HasNoValue values l
  none_from_unset l unset = go (value_at values l.letter.0) refl l.negated refl
    where
      go : (o : Option Bool) → value_at values l.letter.0 ≡ o → (n : Bool) → l.negated ≡ n → HasNoValue values l
      go None is n neg = record { is = is }
      go (Some true) is true neg = absurd (unset.not_false (false_on l (record { is = is ∙ ap Some (sym neg) })))
      go (Some true) is false neg = absurd (unset.not_true (are.on_trail l (is ∙ ap (λ b. Some (not b)) (sym neg))))
      go (Some false) is true neg = absurd (unset.not_true (are.on_trail l (is ∙ ap (λ b. Some (not b)) (sym neg))))
      go (Some false) is false neg = absurd (unset.not_false (false_on l (record { is = is ∙ ap Some (sym neg) })))

pub match_weaker : {X : Type 0} (A B : Type 0) (P Q : X → Type 0) (o : Option X) → (A → B) → ((x : X) → P x → Q x) → MatchOption o A P → MatchOption o B Q
match_weaker A B P Q None f g h = f h
match_weaker A B P Q (Some x) f g h = g x h
