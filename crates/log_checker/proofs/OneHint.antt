-- Hints, one after another.
use Rattle.std.proofs.Common.{◌≡◌, ℕ, ◌⊎◌, inl, inr, List, [], ◌∷◌, drop, get_or, Contains, Option, Some, refl, sym, ap, ◌∙◌, subst}
use Rattle.std.proofs.lemmas.List.Elements.{All-contains}
use Rattle.cnf_base.specs.declared.literal.Literal.{Literal}
use Rattle.cnf_base.specs.declared.literal.Hint.{Hint}
use Rattle.cnf_base.specs.Literal.{opposite}
use Rattle.cnf_base.specs.Step.{IsFalse, IsUnit}
use Rattle.cnf_base.specs.Among.{NamesAmong, RefutesAmong, conflict, propagate}
use Rattle.log_checker.specs.declared.outcome.ClauseStatus.{ClauseStatus}
use Rattle.log_checker.specs.declared.outcome.ClauseStatus.TheVariants.{AllFalse, Forces, Neither}
use Rattle.log_checker.specs.Judging.{IsOutcome, Goes}
use Rattle.log_checker.specs.Laws.{HintsGoOn, NoHintsRefute, UnnamedRefuteNothing}

-- a clause with a literal that is not false is not false
not_both : (falses clause : List Literal) (u : Literal) → IsFalse falses clause → IsUnit falses clause u → ⊥
not_both falses clause u all unit = unit.not_false (All-contains (Contains falses) clause u all unit.there)

-- a clause forces one literal
one_unit : (falses clause : List Literal) (u v : Literal) → IsUnit falses clause u → IsUnit falses clause v → v ≡ u
one_unit falses clause u v one two =
    elim (All-contains (λ l. Contains falses l ⊎ (l ≡ u)) clause v one.others two.there) [ inl false' ↦ absurd (two.not_false false') | inr same ↦ same ]

module _ (clauses : List (List Literal)) (lines : ℕ → Option (List Literal)) (greatest : ℕ) where
  -- what the first hint does
  abbrev pub Begins : List Literal → Hint → List Hint → Type 0
  Begins falses hint hints = (clause : List Literal) × NamesAmong clauses lines greatest hint clause
      × (((hints ≡ []) × IsFalse falses clause) ⊎ ((u : Literal) × IsUnit falses clause u × RefutesAmong clauses lines greatest (opposite u ∷ falses) hints))

  pub begins : {falses : List Literal} {hs : List Hint} → RefutesAmong clauses lines greatest falses hs → (hint : Hint) (hints : List Hint)
      → hs ≡ hint ∷ hints → Begins falses hint hints
  begins {falses} (conflict {hint = h} {clause = clause} names all) hint hints e =
      let same : h ≡ hint = ap (λ x. get_or x 0 h) e in
      let rest : [] ≡ hints = ap (drop 1) e in
      subst (λ x. Begins falses x hints) same (subst (λ x. Begins falses h x) rest (clause, names, inl (refl, all)))
  begins {falses} (propagate {hint = h} {hints = more} {clause = clause} {u = u} names unit rest) hint hints e =
      let same : h ≡ hint = ap (λ x. get_or x 0 h) e in
      let others : more ≡ hints = ap (drop 1) e in
      subst (λ x. Begins falses x hints) same (subst (λ x. Begins falses h x) others (clause, names, inr (u, unit, rest)))

  pub no_refutes : {falses : List Literal} {hs : List Hint} → RefutesAmong clauses lines greatest falses hs → hs ≡ [] → ⊥
  no_refutes (conflict names all) e = cc
  no_refutes (propagate names unit rest) e = cc

  same_clause : (hint : Hint) (a b : List Literal) → NamesAmong clauses lines greatest hint a → NamesAmong clauses lines greatest hint b → b ≡ a
  same_clause hint a b one two = let e : Some a ≡ Some b = sym one.is ∙ two.is in let f : a ≡ b = cc in sym f

  goes_on : (falses : List Literal) (hint : Hint) (hints : List Hint) (clause : List Literal) (outcome : ClauseStatus)
      → NamesAmong clauses lines greatest hint clause → IsOutcome falses clause outcome
      → Begins falses hint hints → Goes clauses lines greatest falses hints outcome
  goes_on falses hint hints clause AllFalse names is b = elim b.2 [
    | inl end ↦ end.0
    | inr more ↦ absurd (not_both falses b.0 more.0 (subst (IsFalse falses) (sym (same_clause hint clause b.0 names b.1)) is) more.1)
  ]
  goes_on falses hint hints clause (Forces u) names is b =
      let same = same_clause hint clause b.0 names b.1 in
      elim b.2 [
        | inl end ↦ absurd (not_both falses clause u (subst (IsFalse falses) same end.1) is)
        | inr more ↦
            let one : more.0 ≡ u = one_unit falses clause u more.0 is (subst (λ c. IsUnit falses c more.0) same more.1) in
            subst (λ v. RefutesAmong clauses lines greatest (opposite v ∷ falses) hints) one more.2
      ]
  goes_on falses hint hints clause Neither names is b =
      let same = same_clause hint clause b.0 names b.1 in
      elim b.2 [
        | inl end ↦ is.0 (subst (IsFalse falses) same end.1)
        | inr more ↦ is.1 more.0 (subst (λ c. IsUnit falses c more.0) same more.1)
      ]

  goes_back : (falses : List Literal) (hint : Hint) (hints : List Hint) (clause : List Literal) (outcome : ClauseStatus)
      → NamesAmong clauses lines greatest hint clause → IsOutcome falses clause outcome
      → Goes clauses lines greatest falses hints outcome → RefutesAmong clauses lines greatest falses (hint ∷ hints)
  goes_back falses hint hints clause AllFalse names is none =
      subst (λ hs. RefutesAmong clauses lines greatest falses (hint ∷ hs)) (sym none) (conflict names is)
  goes_back falses hint hints clause (Forces u) names is rest = propagate names is rest
  goes_back falses hint hints clause Neither names is never = absurd never

pub hints_go_on : HintsGoOn
hints_go_on clauses lines greatest falses hint hints clause outcome names is = (
  λ it. goes_on clauses lines greatest falses hint hints clause outcome names is (begins clauses lines greatest it hint hints refl),
  goes_back clauses lines greatest falses hint hints clause outcome names is,
)

pub no_hints_refute : NoHintsRefute
no_hints_refute clauses lines greatest falses it = no_refutes clauses lines greatest it refl

pub unnamed_refute_nothing : UnnamedRefuteNothing
unnamed_refute_nothing clauses lines greatest falses hint hints unnamed it = let b = begins clauses lines greatest it hint hints refl in unnamed b.0 b.1
