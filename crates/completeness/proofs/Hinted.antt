-- Whether a clause has hints by which it is a step: the hints are among finitely many, and no more than there are literals, since each but the last
-- makes a further one true.
use Rattle.std.proofs.Common.{◌≡◌, ℕ, zero, suc, ◌<◌, ◌≤◌, ◌⊎◌, inl, inr, Bool, true, false, List, [], ◌∷◌, ◌++◌, length, All, Contains, Some}
use Rattle.std.proofs.Common.{get_or, refl, sym, subst, arith}
use Rattle.std.specs.Bool.{Decides}
use mathlib.Core.Bool.{false≢true}
use Rattle.std.proofs.lemmas.Bool.{cases_lt}
use Rattle.std.proofs.lemmas.List.Elements.{All-contains, Contains-get_or, Contains-append_left, Contains-append_right}
use Rattle.std.proofs.lemmas.Option.{slice_get_within}
use Rattle.cnf_base.specs.declared.literal.Literal.{Literal}
use Rattle.cnf_base.specs.declared.literal.Hint.{Hint}
use Rattle.cnf_base.specs.declared.literal.Hint.TheVariants.{Clause, Line}
use Rattle.cnf_base.specs.Literal.{opposite}
use Rattle.cnf_base.specs.Known.{IsKnown, AreKnown}
use Rattle.cnf_base.specs.Step.{numbered, named, Refutes, conflict, propagate, IsHintedStep}
use Rattle.cnf_base.proofs.Deciding.{is_hinted_step, Decides-hinted_step}
use Rattle.derivation.proofs.Renaming.{Contains-here, Contains-there, Contains-cases, Contains-nil, hint_names}
use Rattle.completeness.proofs.Denying.{has_or_not}
use Rattle.completeness.proofs.Reaching.{line_known}
use Rattle.completeness.proofs.Normal.{literals_to, literal_there}
use Rattle.completeness.proofs.Searching.{some_list}

-- ---- how many literals are not false

abbrev missing : List Literal → List Literal → ℕ
missing falses [] = 0
missing falses (x ∷ xs) = elim (has_or_not falses x) [ inl there ↦ missing falses xs | inr none ↦ suc (missing falses xs) ]

missing_most : (falses xs : List Literal) → missing falses xs ≤ length xs
missing_most falses [] = omega arith
missing_most falses (x ∷ xs) = go (has_or_not falses x) (missing_most falses xs)
  where
    go : (h : Contains falses x ⊎ ¬ Contains falses x) → missing falses xs ≤ length xs
        → elim h [ inl there ↦ missing falses xs | inr none ↦ suc (missing falses xs) ] ≤ suc (length xs)
    go (inl there) few = omega arith
    go (inr none) few = omega arith

missing_no_more : (u : Literal) (falses xs : List Literal) → missing (u ∷ falses) xs ≤ missing falses xs
missing_no_more u falses [] = omega arith
missing_no_more u falses (x ∷ xs) = go (has_or_not (u ∷ falses) x) (has_or_not falses x) (missing_no_more u falses xs)
  where
    go : (g : Contains (u ∷ falses) x ⊎ ¬ Contains (u ∷ falses) x) (h : Contains falses x ⊎ ¬ Contains falses x)
        → missing (u ∷ falses) xs ≤ missing falses xs
        → elim g [ inl there ↦ missing (u ∷ falses) xs | inr none ↦ suc (missing (u ∷ falses) xs) ]
        ≤ elim h [ inl there ↦ missing falses xs | inr none ↦ suc (missing falses xs) ]
    go (inl a) (inl b) few = few
    go (inl a) (inr b) few = omega arith
    go (inr a) (inl b) few = absurd (a (Contains-there u x falses b))
    go (inr a) (inr b) few = omega arith

missing_less : (u : Literal) (falses xs : List Literal) → Contains xs u → ¬ Contains falses u → missing (u ∷ falses) xs < missing falses xs
missing_less u falses [] there none = absurd (Contains-nil u there)
missing_less u falses (x ∷ xs) there none =
    go (has_or_not (u ∷ falses) x) (has_or_not falses x) (Contains-cases x u xs there) (λ more. missing_less u falses xs more none)
    (missing_no_more u falses xs)
  where
    go : (g : Contains (u ∷ falses) x ⊎ ¬ Contains (u ∷ falses) x) (h : Contains falses x ⊎ ¬ Contains falses x) → (x ≡ u) ⊎ Contains xs u
        → (Contains xs u → missing (u ∷ falses) xs < missing falses xs) → missing (u ∷ falses) xs ≤ missing falses xs
        → elim g [ inl there ↦ missing (u ∷ falses) xs | inr none ↦ suc (missing (u ∷ falses) xs) ]
        < elim h [ inl there ↦ missing falses xs | inr none ↦ suc (missing falses xs) ]
    go (inl a) (inl b) (inl e) rest few = absurd (none (subst (Contains falses) e b))
    go (inl a) (inl b) (inr more) rest few = rest more
    go (inl a) (inr b) c rest few = omega arith
    go (inr a) (inl b) c rest few = absurd (a (Contains-there u x falses b))
    go (inr a) (inr b) (inl e) rest few = absurd (a (subst (Contains (u ∷ falses)) (sym e) (Contains-here u falses)))
    go (inr a) (inr b) (inr more) rest few = let w = rest more in omega arith

-- ---- the hints that there may be

abbrev counted : (ℕ → Hint) → ℕ → List Hint
counted g zero = []
counted g (suc n) = g (suc n) ∷ counted g n

counted_has : (g : ℕ → Hint) (n m : ℕ) → 1 ≤ m → m ≤ n → Contains (counted g n) (g m)
counted_has g zero m low high = absurd (omega arith)
counted_has g (suc n) m low high = elim (cases_lt n m) [
  | inl more ↦ let last : suc n ≡ m = omega arith in subst (λ k. Contains (counted g (suc n)) (g k)) last (Contains-here (g (suc n)) (counted g n))
  | inr few ↦ Contains-there (g (suc n)) (g m) (counted g n) (counted_has g n m low few)
]

abbrev hints_of : ℕ → ℕ → List Hint
hints_of clauses lines = counted Clause clauses ++ counted Line lines

number_there : (lines : List (List Literal)) (n : ℕ) (line : List Literal) → numbered lines n ≡ Some line → (1 ≤ n) × (n ≤ length lines)
number_there lines zero line is = cc
number_there lines (suc n) line is = let low = slice_get_within lines n line is in (omega arith, omega (arith, low))

module _ (list lines : List (List Literal)) (greatest most : ℕ) (known : AreKnown greatest list) (letters : AreKnown greatest lines) where
  named_known : (hint : Hint) (clause : List Literal) → named list lines hint ≡ Some clause → All (IsKnown greatest) clause
  named_known (Clause n) clause is = line_known greatest list n clause known is
  named_known (Line n) clause is = line_known greatest lines n clause letters is

  hint_there : (hint : Hint) (clause : List Literal) → named list lines hint ≡ Some clause → Contains (hints_of (length list) (length lines)) hint
  hint_there (Clause n) clause is =
      let w = number_there list n clause is in
      Contains-append_left (counted Clause (length list)) (counted Line (length lines)) (Clause n) (counted_has Clause (length list) n w.0 w.1)
  hint_there (Line n) clause is =
      let w = number_there lines n clause is in
      Contains-append_right (counted Clause (length list)) (counted Line (length lines)) (Line n) (counted_has Line (length lines) n w.0 w.1)

  few_hints : {falses : List Literal} {hints : List Hint} → Refutes list lines most falses hints → length hints ≤ suc (missing falses (literals_to greatest))
  few_hints (conflict names all_false) = omega arith
  few_hints {falses} (propagate {hint = hint} {clause = clause} {u = u} names unit rest) =
      let own = All-contains (IsKnown greatest) clause u (named_known hint clause names.is) unit.there in
      let other : IsKnown greatest (opposite u) = record { from_one = own.from_one; within = own.within } in
      let less = missing_less (opposite u) falses (literals_to greatest) (literal_there greatest (opposite u) other) unit.not_true in
      let more = few_hints rest in
      omega (arith, less, more)

  -- some hints make the clause a step, or none do
  pub hints_or_not : (clause : List Literal)
      → ((hints : List Hint) × IsHintedStep list lines most clause hints) ⊎ ¬ ((hints : List Hint) × IsHintedStep list lines most clause hints)
  hints_or_not clause =
      elim (some_list (hints_of (length list) (length lines)) (suc (length (literals_to greatest))) (λ hints. IsHintedStep list lines most clause hints)
      (λ hints own. decided (is_hinted_step list lines most clause hints) (Decides-hinted_step list lines most clause hints))) [
        | inl w ↦ inl (w.0, w.3)
        | inr none ↦ inr (λ w.
            let refutes = w.1.refutes in
            let bound = few_hints refutes in
            let all = missing_most clause (literals_to greatest) in
            none w.0 (omega (arith, bound, all)) (λ k d lt.
            let named_it = hint_names list lines most clause w.0 (get_or w.0 k d) refutes (Contains-get_or w.0 k d lt) in
            hint_there (get_or w.0 k d) named_it.0 named_it.1) w.1)
      ]
    where
      decided : {A : Type 0} (b : Bool) → Decides b A → A ⊎ ¬ A
      decided true d = inl (d.0 refl)
      decided false d = inr (λ a. false≢true (d.1 a))
