-- Hinted steps over more lines that may be named, and over fewer.
use Rattle.std.proofs.Common.{◌≡◌, ℕ, zero, suc, List, [], ◌∷◌, Contains, Option, Some, refl, ◌∙◌, subst, arith}
use Rattle.cnf_base.specs.declared.literal.Literal.{Literal}
use Rattle.cnf_base.specs.declared.literal.Hint.{Hint}
use Rattle.cnf_base.specs.declared.literal.Hint.TheVariants.{Clause, Line}
use Rattle.cnf_base.specs.Step.{numbered, Names, Refutes, conflict as ends, propagate as goes, IsHintedStep}
use Rattle.cnf_base.specs.Among.{named_among, NamesAmong, RefutesAmong, conflict, propagate, IsStepAmong}

-- where each line of a list may be named
module _ (clauses lines : List (List Literal)) (greatest : ℕ) where
  names_to : (hint : Hint) (clause : List Literal) → Names clauses lines greatest hint clause → NamesAmong clauses (numbered lines) greatest hint clause
  names_to (Clause n) clause names = record { is = names.is; within = names.within }
  names_to (Line n) clause names = record { is = names.is; within = names.within }

  names_from : (hint : Hint) (clause : List Literal) → NamesAmong clauses (numbered lines) greatest hint clause → Names clauses lines greatest hint clause
  names_from (Clause n) clause names = record { is = names.is; within = names.within }
  names_from (Line n) clause names = record { is = names.is; within = names.within }

  refutes_to : {falses : List Literal} {hints : List Hint} → Refutes clauses lines greatest falses hints
      → RefutesAmong clauses (numbered lines) greatest falses hints
  refutes_to (ends names all_false) = conflict (names_to _ _ names) all_false
  refutes_to (goes names unit rest) = propagate (names_to _ _ names) unit (refutes_to rest)

  refutes_from : {falses : List Literal} {hints : List Hint} → RefutesAmong clauses (numbered lines) greatest falses hints
      → Refutes clauses lines greatest falses hints
  refutes_from (conflict names all_false) = ends (names_from _ _ names) all_false
  refutes_from (propagate names unit rest) = goes (names_from _ _ names) unit (refutes_from rest)

  pub step_to : (clause : List Literal) (hints : List Hint) → IsHintedStep clauses lines greatest clause hints
      → IsStepAmong clauses (numbered lines) greatest clause hints
  step_to clause hints step = record { within = step.within; no_pair = step.no_pair; refutes = refutes_to step.refutes }

  pub step_from : (clause : List Literal) (hints : List Hint) → IsStepAmong clauses (numbered lines) greatest clause hints
      → IsHintedStep clauses lines greatest clause hints
  step_from clause hints step = record { within = step.within; no_pair = step.no_pair; refutes = refutes_from step.refutes }

-- a hinted step stays one where more lines may be named
module _ (clauses : List (List Literal)) (lines next : ℕ → Option (List Literal)) (greatest : ℕ)
    (kept : (n : ℕ) (clause : List Literal) → lines n ≡ Some clause → next n ≡ Some clause) where
  names_kept : (hint : Hint) (clause : List Literal) → NamesAmong clauses lines greatest hint clause → NamesAmong clauses next greatest hint clause
  names_kept (Clause n) clause names = record { is = names.is; within = names.within }
  names_kept (Line n) clause names = record { is = kept n clause names.is; within = names.within }

  refutes_kept : {falses : List Literal} {hints : List Hint} → RefutesAmong clauses lines greatest falses hints
      → RefutesAmong clauses next greatest falses hints
  refutes_kept (conflict names all_false) = conflict (names_kept _ _ names) all_false
  refutes_kept (propagate names unit rest) = propagate (names_kept _ _ names) unit (refutes_kept rest)

  pub step_kept : (clause : List Literal) (hints : List Hint) → IsStepAmong clauses lines greatest clause hints → IsStepAmong clauses next greatest clause hints
  step_kept clause hints step = record { within = step.within; no_pair = step.no_pair; refutes = refutes_kept step.refutes }

-- a hinted step whose hints name only some of the lines is one over these lines
module _ (clauses : List (List Literal)) (lines fewer : ℕ → Option (List Literal)) (greatest : ℕ) where
  -- each line that a hint names may be named still
  abbrev pub AreLeft : List Hint → Type 0
  AreLeft hints = (n : ℕ) → Contains hints (Line n) → fewer n ≡ lines n

  names_left : (hint : Hint) (rest : List Hint) (clause : List Literal) → NamesAmong clauses lines greatest hint clause → AreLeft (hint ∷ rest)
      → NamesAmong clauses fewer greatest hint clause
  names_left (Clause n) rest clause names left = record { is = names.is; within = names.within }
  names_left (Line n) rest clause names left = record { is = left n (0, omega arith, refl) ∙ names.is; within = names.within }

  refutes_left : {falses : List Literal} {hints : List Hint} → RefutesAmong clauses lines greatest falses hints → AreLeft hints
      → RefutesAmong clauses fewer greatest falses hints
  refutes_left (conflict {hint = hint} {clause = clause} names all_false) left = conflict (names_left hint [] clause names left) all_false
  refutes_left (propagate {hint = hint} {hints = hints} {clause = clause} names unit rest) left =
      propagate (names_left hint hints clause names left) unit (refutes_left rest (λ n there. left n (suc there.0, omega (arith, there.1), there.2)))

  pub step_left : (clause : List Literal) (hints : List Hint) → IsStepAmong clauses lines greatest clause hints → AreLeft hints
      → IsStepAmong clauses fewer greatest clause hints
  step_left clause hints step left = record { within = step.within; no_pair = step.no_pair; refutes = refutes_left step.refutes left }

-- each line that a hint of a step names may be named
module _ (clauses : List (List Literal)) (lines : ℕ → Option (List Literal)) (greatest : ℕ) where
  names_there : (hint : Hint) (clause : List Literal) (m : ℕ) → NamesAmong clauses lines greatest hint clause → hint ≡ Line m → lines m ≡ Some clause
  names_there hint clause m names at = subst (λ h. named_among clauses lines h ≡ Some clause) at names.is

  pub hints_there : {falses : List Literal} {hints : List Hint} → RefutesAmong clauses lines greatest falses hints → (m : ℕ) → Contains hints (Line m)
      → (clause : List Literal) × (lines m ≡ Some clause)
  hints_there (conflict {clause = clause} names all_false) m (zero, low, at) = (clause, names_there _ clause m names at)
  hints_there (conflict names all_false) m (suc i, low, at) = absurd (omega (arith, low))
  hints_there (propagate {clause = clause} names unit rest) m (zero, low, at) = (clause, names_there _ clause m names at)
  hints_there (propagate names unit rest) m (suc i, low, at) = hints_there rest m (i, omega (arith, low), at)
