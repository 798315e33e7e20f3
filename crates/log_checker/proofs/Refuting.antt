-- Hints are gone through, one by one.
use Rattle.std.proofs.Common.{◌≡◌, ◌↔◌, ℕ, zero, suc, Bool, true, false, not, is_some, MatchOption, IsTrue, ◌-◌, ◌<◌, ◌≤◌, ◌⊎◌, inl, inr, List, ◌∷◌, length, []}
use Rattle.std.proofs.Common.{get_or, slice_get, set, All, Contains, Option, Some, None, refl, sym, ◌∙◌, subst, arith}
use mathlib.Core.Bool.{false≢true}
use Rattle.std.proofs.lemmas.List.Elements.{All-weaker, All-contains, Contains-append_right}
use Rattle.std.proofs.lemmas.Option.{slice_get-get_or}
use Rattle.cnf_base.specs.declared.literal.Literal.{Literal}
use Rattle.cnf_base.specs.declared.literal.Hint.{Hint}
use Rattle.cnf_base.specs.declared.literal.Hint.TheVariants as hints
use Rattle.cnf_base.specs.Literal.{opposite}
use Rattle.cnf_base.specs.Known.{IsKnown, AreKnown}
use Rattle.cnf_base.specs.Step.{IsFalse, IsUnit, HasNoPair, clause_at}
use Rattle.cnf_base.specs.Among.{NamesAmong, RefutesAmong, conflict, propagate, IsStepAmong}
use Rattle.log_checker.specs.Values.{letters_in, false_of, falses_in}
use Rattle.log_checker.specs.Judging.{IsOutcome, IsLineOutcome, IsHintOutcome}
use Rattle.log_checker.specs.declared.assignment.Truth.{Truth}
use Rattle.log_checker.specs.declared.assignment.Truth.TheVariants.{Unset}
use Rattle.log_checker.specs.declared.outcome.ClauseStatus.{ClauseStatus}
use Rattle.log_checker.specs.declared.outcome.ClauseStatus.TheVariants.{AllFalse, Forces, Neither}
use Rattle.log_checker.proofs.Falses.{unset_from, falses_more}
use Rattle.log_checker.proofs.OneHint.{hints_go_on, Begins, begins}

-- lists of literals with the same ones
abbrev pub Same : List Literal → List Literal → Type 0
Same F G = (l : Literal) → Contains F l ↔ Contains G l

false_same : (F G clause : List Literal) → Same F G → IsFalse F clause → IsFalse G clause
false_same F G clause same is = All-weaker (λ l. Contains F l) (λ l. Contains G l) (λ l h. (same l).0 h) clause is

unit_same : (F G clause : List Literal) (u : Literal) → Same F G → IsUnit F clause u → IsUnit G clause u
unit_same F G clause u same is = record {
  there = is.there;
  not_false = λ c. is.not_false ((same u).1 c);
  not_true = λ c. is.not_true ((same (opposite u)).1 c);
  others = All-weaker (λ l. Contains F l ⊎ (l ≡ u)) (λ l. Contains G l ⊎ (l ≡ u))
      (λ l h. elim h [ inl here ↦ inl ((same l).0 here) | inr at ↦ inr at ]) clause is.others;
}

cons_same : (F G : List Literal) (u : Literal) → Same F G → Same (u ∷ F) (u ∷ G)
cons_same F G u same l = (to F G (λ k. (same k).0), to G F (λ k. (same k).1))
  where
    to : (A B : List Literal) → ((k : Literal) → Contains A k → Contains B k) → Contains (u ∷ A) l → Contains (u ∷ B) l
    to A B each (zero, low, at) = (0, omega arith, at)
    to A B each (suc i, low, at) = Contains-append_right (u ∷ []) B l (each l (i, omega (arith, low), at))

module _ (clauses : List (List Literal)) (lines : ℕ → Option (List Literal)) (greatest : ℕ) where
  refutes_same : {F : List Literal} {hs : List Hint} → RefutesAmong clauses lines greatest F hs → (G : List Literal) → Same F G
      → RefutesAmong clauses lines greatest G hs
  refutes_same (conflict names all) G same = conflict names (false_same _ G _ same all)
  refutes_same (propagate {u = u} names unit rest) G same =
      propagate names (unit_same _ G _ u same unit) (refutes_same rest (opposite u ∷ G) (cons_same _ G (opposite u) same))

  -- the hints that are left refute exactly where all do
  abbrev pub Remain : List Literal → List Hint → List Literal → List Hint → Type 0
  Remain F hs G all = RefutesAmong clauses lines greatest F hs ↔ RefutesAmong clauses lines greatest G all

  pub remain_neither : (F G : List Literal) (old : List Hint) (hint : Hint) (new all : List Hint) (o : ClauseStatus) → Remain F old G all
      → old ≡ hint ∷ new → IsHintOutcome clauses lines greatest F hint o → o ≡ Neither
      → ¬ RefutesAmong clauses lines greatest G all
  remain_neither F G old hint new all o remain e is at refutes =
      let none : IsHintOutcome clauses lines greatest F hint Neither = subst (IsHintOutcome clauses lines greatest F hint) at is in
      let b : Begins clauses lines greatest F hint new = begins clauses lines greatest (remain.1 refutes) hint new e in
      let both = none b.0 b.1 in
      elim b.2 [ inl end ↦ both.0 end.1 | inr more ↦ both.1 more.0 more.1 ]

  pub remain_false : (F G : List Literal) (old : List Hint) (hint : Hint) (new all : List Hint) (o : ClauseStatus) → Remain F old G all
      → old ≡ hint ∷ new → IsHintOutcome clauses lines greatest F hint o → o ≡ AllFalse
      → (new ≡ []) ↔ RefutesAmong clauses lines greatest G all
  remain_false F G old hint new all o remain e is at =
      let here : IsHintOutcome clauses lines greatest F hint AllFalse = subst (IsHintOutcome clauses lines greatest F hint) at is in
      let law = hints_go_on clauses lines greatest F hint new here.0 AllFalse here.1 here.2 in (
        λ none. remain.0 (subst (RefutesAmong clauses lines greatest F) (sym e) (law.1 none)),
        λ refutes. law.0 (subst (RefutesAmong clauses lines greatest F) e (remain.1 refutes)),
      )

  pub remain_forces : (values : List Truth) (G : List Literal) (old : List Hint) (hint : Hint) (new all : List Hint) (o : ClauseStatus) (u : Literal)
      → Remain (falses_in values) old G all → old ≡ hint ∷ new
      → IsHintOutcome clauses lines greatest (falses_in values) hint o → o ≡ Forces u → u.letter.0 < length values → get_or values u.letter.0 Unset ≡ Unset
      → Remain (falses_in (set values (opposite u).letter.0 (false_of (opposite u).negated))) new G all
  remain_forces values G old hint new all o u remain e is at low none =
      let F : List Literal = falses_in values in
      let next : List Literal = falses_in (set values (opposite u).letter.0 (false_of (opposite u).negated)) in
      let here : IsHintOutcome clauses lines greatest F hint (Forces u) = subst (IsHintOutcome clauses lines greatest F hint) at is in
      let law = hints_go_on clauses lines greatest F hint new here.0 (Forces u) here.1 here.2 in
      let same : (l : Literal) → Contains next l ↔ Contains (opposite u ∷ F) l = λ l. falses_more values (opposite u) l low none in (
        λ refutes. remain.0 (subst (RefutesAmong clauses lines greatest F) (sym e) (law.1 (refutes_same refutes (opposite u ∷ F) same))),
        λ refutes. refutes_same (law.0 (subst (RefutesAmong clauses lines greatest F) e (remain.1 refutes))) next (λ l. ((same l).1, (same l).0)),
      )

  -- the letter of what is forced is known
  pub forced_known : (F : List Literal) (hint : Hint) (u : Literal) → AreKnown greatest clauses → IsHintOutcome clauses lines greatest F hint (Forces u)
      → IsKnown greatest u
  forced_known F hint u known is = All-contains (IsKnown greatest) is.0 u (all hint is.1) is.2.there
    where
      all : (h : Hint) → NamesAmong clauses lines greatest h is.0 → All (IsKnown greatest) is.0
      all (hints.Line n) names = names.within n refl
      all (hints.Clause zero) names = absurd (none names.is)
        where
          none : None ≡ Some is.0 → ⊥
          none e = cc
      all (hints.Clause (suc n)) names = clause_there clauses n is.0 known names.is
        where
          clause_there : (cs : List (List Literal)) (k : ℕ) (clause : List Literal) → AreKnown greatest cs → slice_get cs k ≡ Some clause
              → All (IsKnown greatest) clause
          clause_there cs k clause all' e = All-contains (All (IsKnown greatest)) cs clause all' (found cs k clause e)
            where
              found : (xs : List (List Literal)) (k' : ℕ) (x : List Literal) → slice_get xs k' ≡ Some x → Contains xs x
              found [] k' x e' = cc
              found (y ∷ xs) zero x e' = (0, omega arith, cc)
              found (y ∷ xs) (suc k') x e' = Contains-append_right (y ∷ []) xs x (found xs k' x e')

  pub forced_unset : (values : List Truth) (hint : Hint) (u : Literal) → IsHintOutcome clauses lines greatest (falses_in values) hint (Forces u)
      → get_or values u.letter.0 Unset ≡ Unset
  forced_unset values hint u is = unset_from values u is.2.not_false is.2.not_true

  -- what a clause of the list or a line is, is what the hint's clause is
  pub named_clause : (F : List Literal) (n : ℕ) (o : ClauseStatus) → 1 ≤ n → n ≤ length clauses → IsOutcome F (clause_at clauses n) o
      → IsHintOutcome clauses lines greatest F (hints.Clause n) o
  named_clause F zero o low high is = absurd (omega (arith, low))
  named_clause F (suc n) o low high is = go o is
    where
      there : slice_get clauses n ≡ Some (clause_at clauses (suc n))
      there = let e : suc n - 1 ≡ n = omega arith in
          subst (λ k. slice_get clauses n ≡ Some (get_or clauses k [])) (sym e) (slice_get-get_or clauses n [] (omega (arith, high)))

      names : NamesAmong clauses lines greatest (hints.Clause (suc n)) (clause_at clauses (suc n))
      names = record { is = there; within = λ m e. cc }

      go : (p : ClauseStatus) → IsOutcome F (clause_at clauses (suc n)) p → IsHintOutcome clauses lines greatest F (hints.Clause (suc n)) p
      go AllFalse h = (clause_at clauses (suc n), names, h)
      go (Forces u) h = (clause_at clauses (suc n), names, h)
      go Neither h = λ clause other. subst (λ c. IsOutcome F c Neither) (one clause other) h
        where
          one : (clause : List Literal) → NamesAmong clauses lines greatest (hints.Clause (suc n)) clause → clause_at clauses (suc n) ≡ clause
          one clause other = let e : Some (clause_at clauses (suc n)) ≡ Some clause = sym there ∙ other.is in cc

  pub named_line : (F : List Literal) (n : ℕ) (line : List Literal) (o : ClauseStatus) → lines n ≡ Some line → IsLineOutcome greatest F line o
      → IsHintOutcome clauses lines greatest F (hints.Line n) o
  named_line F n line o there is = go o is
    where
      one : (clause : List Literal) → NamesAmong clauses lines greatest (hints.Line n) clause → line ≡ clause
      one clause other = let e : Some line ≡ Some clause = sym there ∙ other.is in cc

      go : (p : ClauseStatus) → IsLineOutcome greatest F line p → IsHintOutcome clauses lines greatest F (hints.Line n) p
      go AllFalse h = (line, record { is = there; within = λ m e. h.0 }, h.1)
      go (Forces u) h = (line, record { is = there; within = λ m e. h.0 }, h.1)
      go Neither h = λ clause other. subst (λ c. IsOutcome F c Neither) (one clause other)
          (h (subst (All (IsKnown greatest)) (sym (one clause other)) (other.within n refl)))

  -- the line is a hinted step exactly where it may be assumed false and the hints refute then
  pub step_is : (line F : List Literal) (hs : List Hint) → All (IsKnown greatest) line × HasNoPair line × Same F line
      → RefutesAmong clauses lines greatest F hs ↔ IsStepAmong clauses lines greatest line hs
  step_is line F hs is = (
    λ refutes. record { within = is.0; no_pair = is.1; refutes = refutes_same refutes line is.2 },
    λ step. refutes_same step.refutes F (λ l. ((is.2 l).1, (is.2 l).0)),
  )

  pub no_step : (line : List Literal) (hs : List Hint) → ¬ (All (IsKnown greatest) line × HasNoPair line) → ¬ IsStepAmong clauses lines greatest line hs
  no_step line hs not step = not (step.within, step.no_pair)

-- whether there is no next hint
pub ends_here : (old new : List Hint) (next : Option Hint) (b : Bool) → MatchOption next ((old ≡ []) × (new ≡ [])) (λ h. old ≡ h ∷ new) → is_some next ≡ not b
    → IsTrue b ↔ (old ≡ [])
ends_here old new None true step e = (λ yes. step.0, λ at. refl)
ends_here old new None false step e = absurd (clash e)
  where
    clash : false ≡ true → ⊥
    clash f = cc
ends_here old new (Some h) true step e = absurd (clash e)
  where
    clash : true ≡ false → ⊥
    clash f = cc
ends_here old new (Some h) false step e = (λ yes. absurd (false≢true yes), λ at. absurd (clash (sym step ∙ at)))
  where
    clash : h ∷ new ≡ [] → ⊥
    clash f = cc

-- what is assumed and refuted is judged
pub judged : (clauses : List (List Literal)) (lines : ℕ → Option (List Literal)) (entry cleared assumed : List Truth) (line : List Literal)
    (hs : List Hint) (b : Bool)
    → length cleared ≡ length entry → length assumed ≡ length cleared → All (IsKnown (letters_in cleared)) line × HasNoPair line × Same (falses_in assumed) line
    → IsTrue b ↔ RefutesAmong clauses lines (letters_in assumed) (falses_in assumed) hs → IsTrue b ↔ IsStepAmong clauses lines (letters_in entry) line hs
judged clauses lines entry cleared assumed line hs b one two is refuted =
    let known : All (IsKnown (letters_in entry)) line = subst (λ n. All (IsKnown (n - 1)) line) one is.0 in
    let same : IsTrue b ↔ RefutesAmong clauses lines (letters_in entry) (falses_in assumed) hs =
    subst (λ n. IsTrue b ↔ RefutesAmong clauses lines (n - 1) (falses_in assumed) hs) (two ∙ one) refuted in
    let step = step_is clauses lines (letters_in entry) line (falses_in assumed) hs (known, is.1, is.2) in
    (λ yes. step.0 (same.0 yes), λ it. same.1 (step.1 it))
