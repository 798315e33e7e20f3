-- A hinted step stays one where clauses and lines are put behind the others.
use Rattle.std.proofs.Common.{◌≡◌, ℕ, zero, suc, List, [], ◌∷◌, ◌++◌, Some, slice_get}
use Rattle.cnf_base.specs.declared.literal.Literal.{Literal}
use Rattle.cnf_base.specs.declared.literal.Hint.{Hint}
use Rattle.cnf_base.specs.declared.literal.Hint.TheVariants.{Clause, Line}
use Rattle.cnf_base.specs.Step.{named, Names, Refutes, conflict, propagate, IsHintedStep}

pub slice_get_append : {X : Type 0} (xs ys : List X) (n : ℕ) (x : X) → slice_get xs n ≡ Some x → slice_get (xs ++ ys) n ≡ Some x
slice_get_append [] ys n x is = cc
slice_get_append (y ∷ xs) ys zero x is = is
slice_get_append (y ∷ xs) ys (suc n) x is = slice_get_append xs ys n x is

module _ (clauses more lines next : List (List Literal)) (greatest : ℕ) where
  named_more : (hint : Hint) (clause : List Literal) → named clauses lines hint ≡ Some clause → named (clauses ++ more) (lines ++ next) hint ≡ Some clause
  named_more (Clause zero) clause is = cc
  named_more (Clause (suc n)) clause is = slice_get_append clauses more n clause is
  named_more (Line zero) clause is = cc
  named_more (Line (suc n)) clause is = slice_get_append lines next n clause is

  names_more : (hint : Hint) (clause : List Literal) → Names clauses lines greatest hint clause → Names (clauses ++ more) (lines ++ next) greatest hint clause
  names_more hint clause names = record { is = named_more hint clause names.is; within = names.within }

  pub refutes_more : {falses : List Literal} {hints : List Hint} → Refutes clauses lines greatest falses hints
      → Refutes (clauses ++ more) (lines ++ next) greatest falses hints
  refutes_more (conflict names all_false) = conflict (names_more _ _ names) all_false
  refutes_more (propagate names unit rest) = propagate (names_more _ _ names) unit (refutes_more rest)

  pub step_more : (clause : List Literal) (hints : List Hint) → IsHintedStep clauses lines greatest clause hints
      → IsHintedStep (clauses ++ more) (lines ++ next) greatest clause hints
  step_more clause hints step = record { within = step.within; no_pair = step.no_pair; refutes = refutes_more step.refutes }
