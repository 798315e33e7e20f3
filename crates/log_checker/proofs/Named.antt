-- What a named clause or line is, read literal by literal.
use Rattle.std.proofs.Common.{◌≡◌, ℕ, ◌+◌, ◌-◌, ◌<◌, ◌≤◌, List, [], ◌∷◌, ◌++◌, length, slice_get, take, drop, All, Contains, Some, refl, sym, ap, ◌∙◌, subst}
use Rattle.std.proofs.Common.{arith, append_assoc}
use Rattle.std.proofs.lemmas.List.{append-nil, take_more, take_all, take-append-drop}
use Rattle.std.proofs.lemmas.List.Elements.{All-push, All-contains, All-get_or, Contains-append_right}
use Rattle.std.proofs.lemmas.Option.{get_or_from_slice_get}
use Rattle.cnf_base.specs.declared.literal.Literal.{Literal}
use Rattle.cnf_base.specs.Known.{IsKnown, AreKnown}
use Rattle.cnf_base.specs.Step.{clause_at}
use Rattle.log_checker.specs.Values.{letters_in}
use Rattle.log_checker.specs.Judging.{IsOutcome, IsLineOutcome}
use Rattle.log_checker.specs.declared.assignment.Truth.{Truth}
use Rattle.log_checker.specs.declared.outcome.ClauseStatus.{ClauseStatus}
use Rattle.log_checker.specs.declared.outcome.ClauseStatus.TheVariants.{AllFalse, Forces, Neither}
use Rattle.log_checker.proofs.Outcomes.{neither_more}

-- a known letter has a value or may have one
pub known_within : (values : List Truth) (l : Literal) → IsKnown (letters_in values) l → l.letter.0 < length values
known_within values l known = omega (arith, known.from_one, known.within)

-- a line is read up to here: the rest is still to come
pub record IsRead (greatest : ℕ) (falses whole rest : List Literal) (outcome : ClauseStatus) : Type 0 where
  pub done : List Literal
  pub cut : whole ≡ done ++ rest
  pub known : All (IsKnown greatest) done
  pub is : IsOutcome falses done outcome

-- the first of what is to come stands behind what is read
moved : (whole done old : List Literal) (l : Literal) (new : List Literal) → whole ≡ done ++ old → old ≡ l ∷ new → whole ≡ (done ++ l ∷ []) ++ new
moved whole done old l new cut e = cut ∙ ap (λ xs. done ++ xs) e ∙ sym (append_assoc done (l ∷ []) new)

pub first_there : (whole done old : List Literal) (l : Literal) (new : List Literal) → whole ≡ done ++ old → old ≡ l ∷ new → Contains whole l
first_there whole done old l new cut e =
    subst (λ xs. Contains xs l) (sym (cut ∙ ap (λ xs. done ++ xs) e)) (Contains-append_right done (l ∷ new) l (0, omega arith, refl))

pub read_more : (greatest : ℕ) (falses whole old : List Literal) (l : Literal) (new : List Literal) (o p : ClauseStatus) → IsRead greatest falses whole old o
    → old ≡ l ∷ new → IsKnown greatest l
    → ((clause : List Literal) → IsOutcome falses clause o → IsOutcome falses (clause ++ l ∷ []) p) → IsRead greatest falses whole new p
read_more greatest falses whole old l new o p is e known step = record {
  done = is.done ++ l ∷ [];
  cut = moved whole is.done old l new is.cut e;
  known = All-push (IsKnown greatest) is.done l is.known known;
  is = step is.done is.is;
}

pub read_unknown : (greatest : ℕ) (falses whole old : List Literal) (l : Literal) (new : List Literal) (o : ClauseStatus) → IsRead greatest falses whole old o
    → old ≡ l ∷ new → ¬ IsKnown greatest l
    → IsLineOutcome greatest falses whole Neither
read_unknown greatest falses whole old l new o is e unknown =
    λ all. absurd (unknown (All-contains (IsKnown greatest) whole l all (first_there whole is.done old l new is.cut e)))

pub read_neither : (greatest : ℕ) (falses whole rest : List Literal) (o : ClauseStatus) → IsRead greatest falses whole rest o
    → o ≡ Neither → IsLineOutcome greatest falses whole Neither
read_neither greatest falses whole rest o is e =
    (λ all. subst (λ xs. IsOutcome falses xs Neither) (sym is.cut) (neither_more falses is.done rest (subst (IsOutcome falses is.done) e is.is)))

pub read_all : (greatest : ℕ) (falses whole rest : List Literal) (o : ClauseStatus) → IsRead greatest falses whole rest o
    → rest ≡ [] → IsLineOutcome greatest falses whole o
read_all greatest falses whole rest o is e = go o is.is
  where
    same : whole ≡ is.done
    same = is.cut ∙ ap (λ xs. is.done ++ xs) e ∙ append-nil is.done

    go : (p : ClauseStatus) → IsOutcome falses is.done p → IsLineOutcome greatest falses whole p
    go AllFalse h = subst (λ xs. IsLineOutcome greatest falses xs AllFalse) (sym same) (is.known, h)
    go (Forces u) h = subst (λ xs. IsLineOutcome greatest falses xs (Forces u)) (sym same) (is.known, h)
    go Neither h = subst (λ xs. IsLineOutcome greatest falses xs Neither) (sym same) (λ all. h)

-- a clause is read up to a place
read_place : (clause : List Literal) (place : ℕ) (l : Literal) → place < length clause → slice_get clause place ≡ Some l
    → take (place + 1) clause ≡ take place clause ++ l ∷ []
read_place clause place l low at = take_more clause place l low ∙ ap (λ x. take place clause ++ x ∷ []) (get_or_from_slice_get clause place l l at)

pub place_more : (falses clause : List Literal) (place : ℕ) (l : Literal) (o p : ClauseStatus) → place < length clause → slice_get clause place ≡ Some l
    → IsOutcome falses (take place clause) o
    → ((xs : List Literal) → IsOutcome falses xs o → IsOutcome falses (xs ++ l ∷ []) p) → IsOutcome falses (take (place + 1) clause) p
place_more falses clause place l o p low at is step = subst (λ xs. IsOutcome falses xs p) (sym (read_place clause place l low at)) (step (take place clause) is)

pub place_neither : (falses clause : List Literal) (place : ℕ) (o : ClauseStatus) → IsOutcome falses (take place clause) o
    → o ≡ Neither → IsOutcome falses clause Neither
place_neither falses clause place o is e =
    (subst (λ xs. IsOutcome falses xs Neither) (take-append-drop place clause)
    (neither_more falses (take place clause) (drop place clause) (subst (IsOutcome falses (take place clause)) e is)))

pub place_all : (falses clause : List Literal) (place : ℕ) (o : ClauseStatus) → length clause ≤ place → IsOutcome falses (take place clause) o
    → IsOutcome falses clause o
place_all falses clause place o high is = subst (λ xs. IsOutcome falses xs o) (take_all place clause high) is

-- the letters of a clause of the list are known
pub clause_known : (greatest : ℕ) (clauses : List (List Literal)) (number : ℕ) → AreKnown greatest clauses → 1 ≤ number → number ≤ length clauses
    → All (IsKnown greatest) (clause_at clauses number)
clause_known greatest clauses number known low high = All-get_or (All (IsKnown greatest)) clauses (number - 1) [] (omega (arith, low, high)) known

pub place_known : (values : List Truth) (clauses : List (List Literal)) (number place : ℕ) (l : Literal) → AreKnown (letters_in values) clauses
    → 1 ≤ number → number ≤ length clauses
    → place < length (clause_at clauses number) → slice_get (clause_at clauses number) place ≡ Some l → l.letter.0 < length values
place_known values clauses number place l known low high below at =
    let all = clause_known (letters_in values) clauses number known low high in
    let clause : List Literal = clause_at clauses number in
    known_within values l
    (subst (IsKnown (letters_in values)) (get_or_from_slice_get clause place l l at) (All-get_or (IsKnown (letters_in values)) clause place l below all))
