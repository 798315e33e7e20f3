-- A hinted step follows from the clauses and the lines before it.
use Rattle.std.proofs.Common.{◌≡◌, ℕ, zero, suc, ◌⊎◌, inl, inr, ◌||◌, Bool, true, false, not, List, [], ◌∷◌, All, Contains, Some, if◌then◌else◌, refl, sym, ap}
use Rattle.std.proofs.Common.{◌∙◌, arith}
use Rattle.std.specs.List.{list_any}
use mathlib.Core.Bool.{false≢true}
use Rattle.std.proofs.lemmas.List.Elements.{All-nil, All-cons, All-contains}
use Rattle.std.proofs.lemmas.Option.{get_or_from_slice_get, slice_get_within}
use Rattle.cnf_base.specs.declared.literal.Literal.{Literal}
use Rattle.cnf_base.specs.declared.literal.Hint.{Hint}
use Rattle.cnf_base.specs.declared.literal.Hint.TheVariants.{Clause, Line}
use Rattle.cnf_base.specs.Literal.{opposite}
use Rattle.cnf_base.specs.Step.{numbered, named, Refutes, conflict, propagate, IsHintedStep}
use Rattle.cnf_base.specs.Meaning.{literal_value, clause_value, Satisfies}

-- a literal and its opposite have opposite values
opposite_value : (v : ℕ → Bool) (l : Literal) → literal_value v l ≡ true → literal_value v (opposite l) ≡ false
opposite_value v l holds = go l.negated (v l.letter.0) holds
  where
    go : (n b : Bool) → (if n then not b else b) ≡ true → (if not n then not b else b) ≡ false
    go true true e = absurd (false≢true e)
    go true false e = refl
    go false true e = refl
    go false false e = absurd (false≢true e)

-- a test that passes at some element passes at one of the list
pub some_element : {X : Type 0} (p : X → Bool) (xs : List X) → list_any p xs ≡ true → (x : X) × Contains xs x × (p x ≡ true)
some_element p [] e = absurd (false≢true e)
some_element {X} p (x ∷ xs) e = go (p x) refl (λ h. some_element p xs h)
  where
    go : (b : Bool) → p x ≡ b → (list_any p xs ≡ true → (y : X) × Contains xs y × (p y ≡ true)) → (y : X) × Contains (x ∷ xs) y × (p y ≡ true)
    go true is rest = (x, (0, omega arith, refl), is)
    go false is rest =
        let tail : list_any p xs ≡ true = ap (λ b. b || list_any p xs) (sym is) ∙ e in
        let found = rest tail in
        (found.0, (suc found.1.0, omega (arith, found.1.1), found.1.2), found.2)

-- where the test passes at none, it fails at each
no_element : {X : Type 0} (p : X → Bool) (xs : List X) → list_any p xs ≡ false → All (λ x. p x ≡ false) xs
no_element p [] none = All-nil (λ x. p x ≡ false)
no_element p (x ∷ xs) none = go (p x) refl (λ h. no_element p xs h)
  where
    go : (b : Bool) → p x ≡ b → (list_any p xs ≡ false → All (λ y. p y ≡ false) xs) → All (λ y. p y ≡ false) (x ∷ xs)
    go true is rest = absurd (false≢true (sym none ∙ ap (λ b. b || list_any p xs) is))
    go false is rest = All-cons (λ y. p y ≡ false) x xs is (rest (ap (λ b. b || list_any p xs) (sym is) ∙ none))

-- the clause of a number is one of the clauses
pub satisfied_number : (v : ℕ → Bool) (clauses : List (List Literal)) (n : ℕ) (clause : List Literal) → Satisfies v clauses → numbered clauses n ≡ Some clause
    → clause_value v clause ≡ true
satisfied_number v clauses zero clause holds is = cc
satisfied_number v clauses (suc n) clause holds is =
    rw (sym (get_or_from_slice_get clauses n clause [] is)) (holds n [] (slice_get_within clauses n clause is))

satisfied_hint : (v : ℕ → Bool) (clauses lines : List (List Literal)) (hint : Hint) (clause : List Literal) → Satisfies v clauses → Satisfies v lines
    → named clauses lines hint ≡ Some clause → clause_value v clause ≡ true
satisfied_hint v clauses lines (Clause n) clause holds before is = satisfied_number v clauses n clause holds is
satisfied_hint v clauses lines (Line n) clause holds before is = satisfied_number v lines n clause before is

module _ (v : ℕ → Bool) (clauses lines : List (List Literal)) (greatest : ℕ) (holds : Satisfies v clauses) (before : Satisfies v lines) where
  -- the hints refute that each of the false literals is false under v
  refuted : {falses : List Literal} {hints : List Hint} → Refutes clauses lines greatest falses hints → ¬ All (λ l. literal_value v l ≡ false) falses
  refuted {falses} (conflict {clause = clause} names all_false) false_under =
      let found = some_element (literal_value v) clause (satisfied_hint v clauses lines _ clause holds before names.is) in
      let inside = All-contains (Contains falses) clause found.0 all_false found.1 in
      false≢true (sym (All-contains (λ l. literal_value v l ≡ false) falses found.0 false_under inside) ∙ found.2)
  refuted {falses} (propagate {clause = clause} {u = u} names unit rest) false_under =
      let found = some_element (literal_value v) clause (satisfied_hint v clauses lines _ clause holds before names.is) in
      let cases = All-contains (λ l. Contains falses l ⊎ (l ≡ u)) clause found.0 unit.others found.1 in
      elim cases [
        | inl inside ↦ false≢true (sym (All-contains (λ l. literal_value v l ≡ false) falses found.0 false_under inside) ∙ found.2)
        | inr is ↦ refuted rest (All-cons (λ l. literal_value v l ≡ false) (opposite u) falses (opposite_value v u (rw (sym is) found.2)) false_under)
      ]

pub hinted_step_follows : (v : ℕ → Bool) (clauses lines : List (List Literal)) (greatest : ℕ) (clause : List Literal) (hints : List Hint) → Satisfies v clauses
    → Satisfies v lines → IsHintedStep clauses lines greatest clause hints → clause_value v clause ≡ true
hinted_step_follows v clauses lines greatest clause hints holds before step = go (clause_value v clause) refl
  where
    go : (b : Bool) → clause_value v clause ≡ b → clause_value v clause ≡ true
    go true is = is
    go false is = absurd (refuted v clauses lines greatest holds before step.refutes (no_element (literal_value v) clause is))
