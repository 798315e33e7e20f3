-- Steps to a clause that follows: letter by letter from the greatest one, each clause that lacks the letter is a line behind the two that have it more,
-- and a clause that has each letter is one by a clause of the list alone.
use Rattle.std.proofs.Common.{◌≡◌, ℕ, zero, suc, ◌≤◌, ◌⊎◌, inl, inr, Bool, true, false, not, ◌||◌, List, [], ◌∷◌, ◌++◌, length, All, Contains, Some}
use Rattle.std.proofs.Common.{slice_get, refl, sym, ap, subst, ◌∙◌, arith}
use mathlib.Core.Bool.{false≢true}
use Rattle.std.proofs.lemmas.Bool.{cases_lt}
use Rattle.std.proofs.lemmas.List.Elements.{All-cons, All-push, All-weaker, All-contains_itself, Contains-get_or}
use Rattle.std.proofs.lemmas.Option.{slice_get_within, get_or_from_slice_get}
use Rattle.cnf_base.specs.declared.literal.Literal.{Literal}
use Rattle.cnf_base.specs.declared.literal.Hint.{Hint}
use Rattle.cnf_base.specs.declared.literal.Hint.TheVariants.{Clause, Line}
use Rattle.cnf_base.specs.Literal.{opposite}
use Rattle.cnf_base.specs.Known.{IsKnown, AreKnown}
use Rattle.cnf_base.specs.Step.{numbered, HasNoPair, conflict, propagate, IsHintedStep}
use Rattle.cnf_base.specs.Meaning.{literal_value, clause_value}
use Rattle.cnf_base.proofs.MoreClauses.{slice_get_append}
use Rattle.cnf_base.proofs.SameLiteral.{opposite_opposite}
use Rattle.clause_log.specs.LogValue.{greatest_u32}
use Rattle.derivation.specs.Steps.{DerivationValue, AreSteps, with_step}
use Rattle.derivation.proofs.Renaming.{Contains-here, Contains-there, Contains-cases}
use Rattle.derivation.proofs.Lines.{step_added}
use Rattle.completeness.specs.Reaching.{Follows, Reaches, StepsAreComplete}
use Rattle.completeness.proofs.Denying.{literal_of, has_or_not, Covers, falsified}

-- ---- a literal more

not_same : (b : Bool) → b ≡ not b → ⊥
not_same true e = false≢true (sym e)
not_same false e = false≢true e

lone_more : (l : Literal) (clause : List Literal) → HasNoPair clause → ¬ Contains clause l → ¬ Contains clause (opposite l) → HasNoPair (l ∷ clause)
lone_more l clause lone none other x a b = elim (Contains-cases l x clause a) [
  | inl e ↦ elim (Contains-cases l (opposite x) clause b) [
    | inl f ↦ not_same x.negated (ap (λ (y : Literal). y.negated) (sym e ∙ f))
    | inr there ↦ other (subst (λ y. Contains clause (opposite y)) (sym e) there)
  ]
  | inr there ↦ elim (Contains-cases l (opposite x) clause b) [
    | inl f ↦ other (subst (λ y. Contains clause y) (sym (ap opposite f ∙ opposite_opposite x)) there)
    | inr also ↦ lone x there also
  ]
]

or_true : (a b : Bool) → b ≡ true → (a || b) ≡ true
or_true true b e = refl
or_true false b e = e

follows_more : (list : List (List Literal)) (l : Literal) (clause : List Literal) → Follows list clause → Follows list (l ∷ clause)
follows_more list l clause follows v holds = or_true (literal_value v l) (clause_value v clause) (follows v holds)

covers_less : (m greatest : ℕ) (clause : List Literal) → Contains clause (literal_of (suc m) false) ⊎ Contains clause (literal_of (suc m) true)
    → Covers (suc m) greatest clause → Covers m greatest clause
covers_less m greatest clause here covers n above within = elim (cases_lt (suc m) n) [
  | inl more ↦ covers n more within
  | inr low ↦ let same : suc m ≡ n = omega arith in
      subst (λ k. Contains clause (literal_of k false) ⊎ Contains clause (literal_of k true)) same here
]

covers_more : (m greatest : ℕ) (l : Literal) (clause : List Literal) → Covers m greatest clause → Covers m greatest (l ∷ clause)
covers_more m greatest l clause covers n above within = elim (covers n above within) [
  | inl there ↦ inl (Contains-there l (literal_of n false) clause there)
  | inr there ↦ inr (Contains-there l (literal_of n true) clause there)
]

-- ---- a line more

last_line : {X : Type 0} (xs : List X) (x : X) → slice_get (xs ++ x ∷ []) (length xs) ≡ Some x
last_line [] x = refl
last_line (y ∷ xs) x = last_line xs x

numbered_more : (lines more : List (List Literal)) (n : ℕ) (line : List Literal) → numbered lines n ≡ Some line → numbered (lines ++ more) n ≡ Some line
numbered_more lines more zero line is = cc
numbered_more lines more (suc n) line is = slice_get_append lines more n line is

pub line_known : (greatest : ℕ) (lines : List (List Literal)) (n : ℕ) (line : List Literal) → AreKnown greatest lines → numbered lines n ≡ Some line
    → All (IsKnown greatest) line
line_known greatest lines zero line known is = cc
line_known greatest lines (suc n) line known is =
    subst (All (IsKnown greatest)) (get_or_from_slice_get lines n line [] is) (known n [] (slice_get_within lines n line is))

module _ (list : List (List Literal)) (greatest : ℕ) (few : greatest ≤ greatest_u32) (known : AreKnown greatest list) where
  known_enough : (clause : List Literal) → All (IsKnown greatest) clause → All (IsKnown greatest_u32) clause
  known_enough clause all =
      All-weaker (IsKnown greatest) (IsKnown greatest_u32) (λ l is. record { from_one = is.from_one; within = omega (arith, is.within, few) }) clause all

  with_line : (d : DerivationValue) (clause : List Literal) (hints : List Hint) → AreSteps list d → AreKnown greatest d.lines → All (IsKnown greatest) clause
      → IsHintedStep list d.lines greatest_u32 clause hints → Reaches list greatest d clause
  with_line d clause hints are letters own step = record {
    new = with_step d clause hints;
    steps = step_added list d clause hints are step;
    letters = All-push (All (IsKnown greatest)) d.lines clause letters own;
    keeps = numbered_more d.lines (clause ∷ []);
    number = suc (length d.lines);
    is = last_line d.lines clause;
  }

  -- a clause of the list is false
  by_clause : (lines : List (List Literal)) (clause other : List Literal) (k : ℕ) → HasNoPair clause → All (IsKnown greatest) clause
      → slice_get list k ≡ Some other → All (λ l. Contains clause l) other → IsHintedStep list lines greatest_u32 clause (Clause (suc k) ∷ [])
  by_clause lines clause other k lone own is all_false = record {
    within = known_enough clause own;
    no_pair = lone;
    refutes = conflict (record { is = is; within = λ number e. absurd (cc) }) all_false;
  }

  -- a line with a letter more, and one with its negation
  by_lines : (lines : List (List Literal)) (clause : List Literal) (n a b : ℕ) → AreKnown greatest lines → HasNoPair clause → All (IsKnown greatest) clause
      → ¬ Contains clause (literal_of n false) → ¬ Contains clause (literal_of n true)
      → numbered lines a ≡ Some (literal_of n false ∷ clause) → numbered lines b ≡ Some (literal_of n true ∷ clause)
      → IsHintedStep list lines greatest_u32 clause (Line a ∷ Line b ∷ [])
  by_lines lines clause n a b letters lone own no_plus no_minus is also =
      let plus = literal_of n false in
      let minus = literal_of n true in record {
        within = known_enough clause own;
        no_pair = lone;
        refutes = propagate (record { is = is; within = λ number e. known_enough (plus ∷ clause) (line_known greatest lines a (plus ∷ clause) letters is) })
            (record {
              there = Contains-here plus clause;
              not_false = no_plus;
              not_true = no_minus;
              others = All-cons (λ l. Contains clause l ⊎ (l ≡ plus)) plus clause (inr refl) (λ k d lt. inl (Contains-get_or clause k d lt));
            })
            (conflict (record { is = also; within = λ number e. known_enough (minus ∷ clause) (line_known greatest lines b (minus ∷ clause) letters also) })
            (All-contains_itself (minus ∷ clause)));
      }

  grow : (m : ℕ) → m ≤ greatest → (clause : List Literal) → HasNoPair clause → All (IsKnown greatest) clause → Covers m greatest clause → Follows list clause
      → (d : DerivationValue) → AreSteps list d → AreKnown greatest d.lines → Reaches list greatest d clause
  grow zero le clause lone own covers follows d are letters =
      let w = falsified list greatest clause known lone covers follows in
      with_line d clause (Clause (suc w.0) ∷ []) are letters own (by_clause d.lines clause w.1 w.0 lone own w.2 w.3)
  grow (suc m) le clause lone own covers follows d are letters = elim (has_or_not clause (literal_of (suc m) false)) [
    | inl there ↦ grow m (omega arith) clause lone own (covers_less m greatest clause (inl there) covers) follows d are letters
    | inr no_plus ↦ elim (has_or_not clause (literal_of (suc m) true)) [
      | inl there ↦ grow m (omega arith) clause lone own (covers_less m greatest clause (inr there) covers) follows d are letters
      | inr no_minus ↦
          let plus = literal_of (suc m) false in
          let minus = literal_of (suc m) true in
          let here : IsKnown greatest plus = record { from_one = omega arith; within = le } in
          let also : IsKnown greatest minus = record { from_one = omega arith; within = le } in
          let one = grow m (omega arith) (plus ∷ clause) (lone_more plus clause lone no_plus no_minus) (All-cons (IsKnown greatest) plus clause here own)
          (covers_less m greatest (plus ∷ clause) (inl (Contains-here plus clause)) (covers_more (suc m) greatest plus clause covers))
          (follows_more list plus clause follows) d are letters in
          let two = grow m (omega arith) (minus ∷ clause) (lone_more minus clause lone no_minus no_plus) (All-cons (IsKnown greatest) minus clause also own)
          (covers_less m greatest (minus ∷ clause) (inr (Contains-here minus clause)) (covers_more (suc m) greatest minus clause covers))
          (follows_more list minus clause follows) one.new one.steps one.letters in
          let step = by_lines two.new.lines clause (suc m) one.number two.number two.letters lone own no_plus no_minus
          (two.keeps one.number (plus ∷ clause) one.is) two.is in
          let done = with_line two.new clause (Line one.number ∷ Line two.number ∷ []) two.steps two.letters own step in record {
            new = done.new;
            steps = done.steps;
            letters = done.letters;
            keeps = λ number line is. done.keeps number line (two.keeps number line (one.keeps number line is));
            number = done.number;
            is = done.is;
          }
    ]
  ]

pub steps_are_complete : StepsAreComplete
steps_are_complete list greatest d clause few known are letters own lone follows =
    grow list greatest few known greatest (omega arith) clause lone own (λ n above within. absurd (omega arith)) follows d are letters
