-- Whether a clause with hints is a hinted step, computed.
use Rattle.std.proofs.Common.{◌≡◌, ◌==◌, ℕ, suc, ◌⊎◌, ◌||◌, Bool, true, false, not, List, [], ◌∷◌, get_or, All, Contains, Option, Some, None, refl, ap, ap₂}
use Rattle.std.proofs.Common.{◌∙◌, arith}
use mathlib.Core.Bool.{false≢true, ◌&&◌, beq}
use Rattle.std.specs.Bool.{Decides}
use Rattle.std.specs.List.{list_any, list_all}
use Rattle.std.specs.Set.{is_member}
use Rattle.std.specs.Cmp.{booleans_Decides}
use Rattle.std.proofs.Math.Dec.{ltb}
use Rattle.std.proofs.lemmas.Bool.Decides.{Decides-eqb, Decides-ltb, Decides-and, Decides-or, Decides-not, Decides-by_and}
use Rattle.std.proofs.lemmas.List.Elements.{All-contains, Contains-get_or}
use Rattle.std.proofs.lemmas.List.Folds.{list_any_at}
use Rattle.std.proofs.lemmas.Map.Made.{is_member-Decides}
use Rattle.cnf_base.specs.declared.literal.Literal.{Literal}
use Rattle.cnf_base.specs.declared.literal.Hint.{Hint}
use Rattle.cnf_base.specs.declared.literal.Hint.TheVariants.{Clause, Line}
use Rattle.cnf_base.specs.Literal.{opposite}
use Rattle.cnf_base.specs.Known.{IsKnown}
use Rattle.cnf_base.specs.Step.{named, HasNoPair, IsFalse, IsUnit, Names, Refutes, conflict, propagate, IsHintedStep}
use Rattle.cnf_base.proofs.Soundness.{some_element}

-- both tests pass exactly where each does
and_parts : (a b : Bool) → (a && b) ≡ true → (a ≡ true) × (b ≡ true)
and_parts true b e = (refl, e)
and_parts false b e = absurd (false≢true e)

and_made : (a b : Bool) → a ≡ true → b ≡ true → (a && b) ≡ true
and_made a b is_a is_b = ap₂ ◌&&◌ is_a is_b

-- whether there is a value and it passes the test
abbrev on_some : {A : Type 0} → Option A → (A → Bool) → Bool
on_some None test = false
on_some (Some a) test = test a

some_parts : {A : Type 0} (o : Option A) (test : A → Bool) → on_some o test ≡ true → (a : A) × (o ≡ Some a) × (test a ≡ true)
some_parts None test e = absurd (false≢true e)
some_parts (Some a) test e = (a, refl, e)

some_made : {A : Type 0} (o : Option A) (test : A → Bool) (a : A) → o ≡ Some a → test a ≡ true → on_some o test ≡ true
some_made o test a is e = ap (λ v. on_some v test) is ∙ e

Decides-all : {X : Type 0} (p : X → Bool) (P : X → Type 0) → ((x : X) → Decides (p x) (P x)) → (xs : List X) → Decides (list_all p xs) (All P xs)
Decides-all p P each xs = Decides-by_and p P (list_all p) each refl (λ _ _. refl) xs

abbrev same : Literal → Literal → Bool
same a b = (a.letter.0 == b.letter.0) && beq a.negated b.negated

Decides-same : (a b : Literal) → Decides (same a b) (a ≡ b)
Decides-same a b =
    let make : ℕ → Bool → Literal = λ x n. record { letter = record { 0 = x }; negated = n } in
    let parts = Decides-and (a.letter.0 == b.letter.0) (beq a.negated b.negated) (Decides-eqb a.letter.0 b.letter.0) (booleans_Decides a.negated b.negated) in
    (λ e. ap₂ make (parts.0 e).0 (parts.0 e).1, λ e. parts.1 (ap (λ (l : Literal). l.letter.0) e, ap (λ (l : Literal). l.negated) e))

abbrev has : List Literal → Literal → Bool
has clause l = is_member same clause l

Decides-has : (clause : List Literal) (l : Literal) → Decides (has clause l) (Contains clause l)
Decides-has clause l = is_member-Decides Decides-same clause l

-- whether the literal's letter is one of those from 1 to the greatest
abbrev is_known : ℕ → Literal → Bool
is_known greatest l = ltb 0 l.letter.0 && ltb l.letter.0 (suc greatest)

Decides-known : (greatest : ℕ) (l : Literal) → Decides (is_known greatest l) (IsKnown greatest l)
Decides-known greatest l =
    let both = Decides-and (ltb 0 l.letter.0) (ltb l.letter.0 (suc greatest)) (Decides-ltb 0 l.letter.0) (Decides-ltb l.letter.0 (suc greatest)) in (
      λ e. let p = both.0 e in record {
        from_one = omega (
          arith,
          p.0,
        );
        within = omega (arith, p.1);
      },
      λ known. both.1 (omega (arith, known.from_one), omega (arith, known.within)),
    )

abbrev are_known : ℕ → List Literal → Bool
are_known greatest clause = list_all (is_known greatest) clause

Decides-all_known : (greatest : ℕ) (clause : List Literal) → Decides (are_known greatest clause) (All (IsKnown greatest) clause)
Decides-all_known greatest clause = Decides-all (is_known greatest) (IsKnown greatest) (Decides-known greatest) clause

abbrev has_no_pair : List Literal → Bool
has_no_pair clause = list_all (λ l. not (has clause (opposite l))) clause

Decides-no_pair : (clause : List Literal) → Decides (has_no_pair clause) (HasNoPair clause)
Decides-no_pair clause =
    let Lone : Literal → Type 0 = λ l. ¬ Contains clause (opposite l) in
    let each = Decides-all (λ l. not (has clause (opposite l))) Lone (λ l. Decides-not (has clause (opposite l)) (Decides-has clause (opposite l))) clause in
    (λ e l there. All-contains Lone clause l (each.0 e) there, λ h. each.1 (λ k d below. h (get_or clause k d) (Contains-get_or clause k d below)))

abbrev is_false : List Literal → List Literal → Bool
is_false falses clause = list_all (has falses) clause

Decides-false : (falses clause : List Literal) → Decides (is_false falses clause) (IsFalse falses clause)
Decides-false falses clause = Decides-all (has falses) (Contains falses) (Decides-has falses) clause

-- whether u is the one literal of the clause that is not false, and has no value
abbrev is_unit : List Literal → List Literal → Literal → Bool
is_unit falses clause u = (has clause u && not (has falses u)) && (not (has falses (opposite u)) && list_all (λ l. has falses l || same l u) clause)

Decides-unit : (falses clause : List Literal) (u : Literal) → Decides (is_unit falses clause u) (IsUnit falses clause u)
Decides-unit falses clause u =
    let others : Bool = list_all (λ l. has falses l || same l u) clause in
    let Others : Type 0 = All (λ l. Contains falses l ⊎ (l ≡ u)) clause in
    let is_others : Decides others Others =
    Decides-all (λ l. has falses l || same l u) (λ l. Contains falses l ⊎ (l ≡ u))
    (λ l. Decides-or (has falses l) (same l u) (Decides-has falses l) (Decides-same l u)) clause in
    let front = Decides-and (has clause u) (not (has falses u)) (Decides-has clause u) (Decides-not (has falses u) (Decides-has falses u)) in
    let back = Decides-and (not (has falses (opposite u))) others (Decides-not (has falses (opposite u)) (Decides-has falses (opposite u))) is_others in
    let all = Decides-and (has clause u && not (has falses u)) (not (has falses (opposite u)) && others) front back in (
      λ e. let p = all.0 e in record { there = p.0.0; not_false = p.0.1; not_true = p.1.0; others = p.1.1 },
      λ unit. all.1 ((unit.there, unit.not_false), (unit.not_true, unit.others)),
    )

-- whether the hint may name this clause
abbrev may_name : ℕ → Hint → List Literal → Bool
may_name greatest (Clause number) clause = true
may_name greatest (Line number) clause = are_known greatest clause

Decides-named : (greatest : ℕ) (hint : Hint) (clause : List Literal)
    → Decides (may_name greatest hint clause) ((number : ℕ) → hint ≡ Line number → All (IsKnown greatest) clause)
Decides-named greatest (Clause number) clause = (λ e n is. cc, λ h. refl)
Decides-named greatest (Line number) clause =
    let within = Decides-all_known greatest clause in
    (λ e n is. within.0 e, λ h. within.1 (h number refl))

module _ (clauses lines : List (List Literal)) (greatest : ℕ) where
  -- whether the hints lead from these false literals to a false clause
  abbrev refutes : List Literal → List Hint → Bool
  refutes falses [] = false
  refutes falses (hint ∷ []) = on_some (named clauses lines hint) (λ clause. may_name greatest hint clause && is_false falses clause)
  refutes falses (hint ∷ next ∷ hints) =
      on_some (named clauses lines hint) (λ clause. may_name greatest hint clause
      && list_any (λ u. is_unit falses clause u && refutes (opposite u ∷ falses) (next ∷ hints)) clause)

  names_of : (hint : Hint) (clause : List Literal) → named clauses lines hint ≡ Some clause
      → may_name greatest hint clause ≡ true → Names clauses lines greatest hint clause
  names_of hint clause is known = record { is = is; within = (Decides-named greatest hint clause).0 known }

  found : (hints : List Hint) (falses : List Literal) → refutes falses hints ≡ true → Refutes clauses lines greatest falses hints
  found [] falses e = absurd (false≢true e)
  found (hint ∷ []) falses e =
      let it = some_parts (named clauses lines hint) (λ clause. may_name greatest hint clause && is_false falses clause) e in
      let parts = and_parts (may_name greatest hint it.0) (is_false falses it.0) it.2 in
      conflict (names_of hint it.0 it.1 parts.0) ((Decides-false falses it.0).0 parts.1)
  found (hint ∷ next ∷ hints) falses e =
      let step : List Literal → Literal → Bool = λ clause u. is_unit falses clause u && refutes (opposite u ∷ falses) (next ∷ hints) in
      let it = some_parts (named clauses lines hint) (λ clause. may_name greatest hint clause && list_any (step clause) clause) e in
      let parts = and_parts (may_name greatest hint it.0) (list_any (step it.0) it.0) it.2 in
      let unit = some_element (step it.0) it.0 parts.1 in
      let both = and_parts (is_unit falses it.0 unit.0) (refutes (opposite unit.0 ∷ falses) (next ∷ hints)) unit.2 in
      propagate (names_of hint it.0 it.1 parts.0) ((Decides-unit falses it.0 unit.0).0 both.0) (found (next ∷ hints) (opposite unit.0 ∷ falses) both.1)

  after : (hints : List Hint) (falses : List Literal) (hint : Hint) (clause : List Literal) (u : Literal) → Names clauses lines greatest hint clause
      → IsUnit falses clause u
      → refutes (opposite u ∷ falses) hints ≡ true → refutes falses (hint ∷ hints) ≡ true
  after [] falses hint clause u names unit e = absurd (false≢true e)
  after (next ∷ hints) falses hint clause u names unit e =
      let step : List Literal → Literal → Bool = λ clause u. is_unit falses clause u && refutes (opposite u ∷ falses) (next ∷ hints) in
      let here : step clause u ≡ true =
      and_made (is_unit falses clause u) (refutes (opposite u ∷ falses) (next ∷ hints)) ((Decides-unit falses clause u).1 unit) e in
      let passes = list_any_at (step clause) clause unit.there.0 u unit.there.1 (ap (step clause) unit.there.2 ∙ here) in
      some_made (named clauses lines hint) (λ clause. may_name greatest hint clause && list_any (step clause) clause) clause names.is
      (and_made (may_name greatest hint clause) (list_any (step clause) clause) ((Decides-named greatest hint clause).1 names.within) passes)

  kept : {falses : List Literal} {hints : List Hint} → Refutes clauses lines greatest falses hints → refutes falses hints ≡ true
  kept (conflict {falses = falses} {hint = hint} {clause = clause} names all_false) =
      some_made (named clauses lines hint) (λ clause. may_name greatest hint clause && is_false falses clause) clause names.is
      (and_made (may_name greatest hint clause) (is_false falses clause) ((Decides-named greatest hint clause).1 names.within)
      ((Decides-false falses clause).1 all_false))
  kept (propagate {falses = falses} {hint = hint} {hints = hints} {clause = clause} {u = u} names unit rest) =
      after hints falses hint clause u names unit (kept rest)

  -- whether the clause with these hints is a hinted step
  abbrev pub is_hinted_step : List Literal → List Hint → Bool
  is_hinted_step clause hints = are_known greatest clause && (has_no_pair clause && refutes clause hints)

  pub Decides-hinted_step : (clause : List Literal) (hints : List Hint)
      → Decides (is_hinted_step clause hints) (IsHintedStep clauses lines greatest clause hints)
  Decides-hinted_step clause hints =
      let rest : Decides (refutes clause hints) (Refutes clauses lines greatest clause hints) = (found hints clause, kept) in
      let all = Decides-and (are_known greatest clause) (has_no_pair clause && refutes clause hints) (Decides-all_known greatest clause)
      (Decides-and (has_no_pair clause) (refutes clause hints) (Decides-no_pair clause) rest) in
      (λ e. let p = all.0 e in record { within = p.0; no_pair = p.1.0; refutes = p.1.1 }, λ step. all.1 (step.within, (step.no_pair, step.refutes)))
