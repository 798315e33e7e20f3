-- A hinted step stays one where its hints are renamed, and what they name is kept under the new names.
use Rattle.std.proofs.Common.{◌≡◌, ℕ, zero, suc, ◌⊎◌, inl, inr, List, [], ◌∷◌, map, Some, Contains, refl, arith}
use Rattle.cnf_base.specs.declared.literal.Literal.{Literal}
use Rattle.cnf_base.specs.declared.literal.Hint.{Hint}
use Rattle.cnf_base.specs.declared.literal.Hint.TheVariants.{Line}
use Rattle.cnf_base.specs.Step.{named, Names, Refutes, conflict, propagate, IsHintedStep}

pub Contains-here : {X : Type 0} (x : X) (xs : List X) → Contains (x ∷ xs) x
Contains-here x xs = (0, omega arith, refl)

pub Contains-there : {X : Type 0} (x y : X) (xs : List X) → Contains xs y → Contains (x ∷ xs) y
Contains-there x y xs c = (suc c.0, omega (arith, c.1), c.2)

pub Contains-cases : {X : Type 0} (x y : X) (xs : List X) → Contains (x ∷ xs) y → (x ≡ y) ⊎ Contains xs y
Contains-cases x y xs (zero, lt, e) = inl e
Contains-cases x y xs (suc k, lt, e) = inr (k, omega arith, e)

pub Contains-nil : {X : Type 0} (y : X) → Contains [] y → ⊥
Contains-nil y c = omega (arith, c.1)

module _ (clauses lines list next : List (List Literal)) (greatest : ℕ) (ren : Hint → Hint) where
  -- what the hint names is named by the new hint
  pub record IsCarried (hint : Hint) : Type 0 where
    pub clause : (clause : List Literal) → named clauses lines hint ≡ Some clause → named list next (ren hint) ≡ Some clause
    pub line : (n : ℕ) → ren hint ≡ Line n → (m : ℕ) × (hint ≡ Line m)

  names_renamed : (hint : Hint) (clause : List Literal) → IsCarried hint → Names clauses lines greatest hint clause → Names list next greatest (ren hint) clause
  names_renamed hint clause is names = record { is = is.clause clause names.is; within = λ n e. let w = is.line n e in names.within w.0 w.1 }

  pub refutes_renamed : {falses : List Literal} {hints : List Hint} → ((hint : Hint) → Contains hints hint → IsCarried hint)
      → Refutes clauses lines greatest falses hints → Refutes list next greatest falses (map ren hints)
  refutes_renamed each (conflict {hint = hint} names all_false) = conflict (names_renamed hint _ (each hint (Contains-here hint [])) names) all_false
  refutes_renamed each (propagate {hint = hint} {hints = hints} names unit rest) =
      propagate (names_renamed hint _ (each hint (Contains-here hint hints)) names) unit (refutes_renamed (λ x c. each x (Contains-there hint x hints c)) rest)

  pub step_renamed : (clause : List Literal) (hints : List Hint) → ((hint : Hint) → Contains hints hint → IsCarried hint)
      → IsHintedStep clauses lines greatest clause hints → IsHintedStep list next greatest clause (map ren hints)
  step_renamed clause hints each step = record { within = step.within; no_pair = step.no_pair; refutes = refutes_renamed each step.refutes }

-- each hint of a step names a clause
pub hint_names : (clauses lines : List (List Literal)) (greatest : ℕ) (falses : List Literal) (hints : List Hint) (hint : Hint)
    → Refutes clauses lines greatest falses hints → Contains hints hint → (clause : List Literal) × (named clauses lines hint ≡ Some clause)
hint_names clauses lines greatest falses hints hint r c = go r c
  where
    go : {falses : List Literal} {hints : List Hint} → Refutes clauses lines greatest falses hints → Contains hints hint
        → (clause : List Literal) × (named clauses lines hint ≡ Some clause)
    go (conflict {hint = first} {clause = clause} names all_false) c = elim (Contains-cases first hint [] c) [
      | inl e ↦ (clause, rw (← e) names.is)
      | inr i ↦ absurd (Contains-nil hint i)
    ]
    go (propagate {hint = first} {hints = hints} {clause = clause} names unit rest) c = elim (Contains-cases first hint hints c) [
      | inl e ↦ (clause, rw (← e) names.is)
      | inr i ↦ go rest i
    ]
