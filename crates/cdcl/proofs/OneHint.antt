-- A clause that one line refutes at once has each literal of that line.
use Rattle.std.proofs.Common.{◌≡◌, ℕ, zero, suc, ◌≤◌, ◌+◌, ◌-◌, List, [], ◌∷◌, ◌++◌, ◌∙◌, ap, All, Contains, length, get_or, Some, subst, sym, arith}
use Rattle.std.proofs.lemmas.List.{length_push, get_or_at}
use Rattle.std.proofs.lemmas.List.Elements.{All-contains_itself}
use Rattle.std.proofs.lemmas.Option.{slice_get_within, get_or_from_slice_get}
use Rattle.cnf_base.specs.declared.literal.Literal.{Literal}
use Rattle.cnf_base.specs.declared.literal.Hint.{Hint}
use Rattle.cnf_base.specs.declared.literal.Hint.TheVariants.{Line}
use Rattle.cnf_base.specs.Step.{numbered, named, clause_at, IsFalse, Refutes, conflict, propagate, IsHintedStep}
use Rattle.clause_log.specs.LogValue.{greatest_u32}
use Rattle.cdcl_state.specs.StateValue.{StateValue}
use Rattle.cdcl.specs.Solving.{IsLineOf}
use Rattle.cdcl.specs.declared.solve.Answer.TheVariants.{Unsat}

module _ (clauses lines : List (List Literal)) (greatest : ℕ) where
  none_left : {A : Type 0} {falses : List Literal} {hints : List Hint} → Refutes clauses lines greatest falses hints → length hints ≡ 0 → A
  none_left (conflict names all_false) none = absurd (omega (arith, none))
  none_left (propagate names unit rest) none = absurd (omega (arith, none))

  one_named : {falses : List Literal} {hints : List Hint} → Refutes clauses lines greatest falses hints → (n : ℕ) (d : Hint)
      → length hints ≡ 1 → get_or hints 0 d ≡ Line n
      → (clause : List Literal) × (numbered lines n ≡ Some clause) × IsFalse falses clause
  one_named (conflict {hint = hint} {clause = clause} names all_false) n d one first =
      (clause, subst (λ h. named clauses lines h ≡ Some clause) first names.is, all_false)
  one_named (propagate names unit rest) n d one first = none_left rest (omega (arith, one))

line_there : (lines : List (List Literal)) (n : ℕ) (clause : List Literal) → numbered lines n ≡ Some clause
    → (1 ≤ n) × (n ≤ length lines) × (clause_at lines n ≡ clause)
line_there lines zero clause is = absurd (cc)
line_there lines (suc j) clause is =
    let place : suc j - 1 ≡ j = omega arith in (
      omega arith,
      omega (
        arith,
        slice_get_within lines j clause is,
      ),
      subst (λ i. get_or lines i [] ≡ clause) (sym place) (get_or_from_slice_get lines j clause [] is),
    )

pub line_says : (s : StateValue) (clause : List Literal) (hints : List Hint) (n : ℕ) (d : Hint)
    → IsHintedStep s.log.inputs s.log.lines greatest_u32 clause hints
    → length hints ≡ 1 → get_or hints 0 d ≡ Line n → IsLineOf s clause (Unsat n)
line_says s clause hints n d step one first =
    let w = one_named s.log.inputs s.log.lines greatest_u32 step.refutes n d one first in
    let there = line_there s.log.lines n w.0 w.1 in
    (there.0, there.1, subst (All (Contains clause)) (sym there.2) w.2)

-- a line that was put behind the others has its own literals
pub pushed : (s : StateValue) (lines : List (List Literal)) (clause : List Literal) (n : ℕ) → s.log.lines ≡ lines ++ clause ∷ [] → n ≡ length s.log.lines
    → IsLineOf s clause (Unsat n)
pushed s lines clause n is last =
    let count : length s.log.lines ≡ length lines + 1 = ap length is ∙ length_push lines clause in
    let same : clause_at s.log.lines n ≡ clause =
    ap (λ (ls : List (List Literal)). get_or ls (n - 1) []) is ∙ get_or_at lines clause [] [] (n - 1) (omega (arith, last, count)) in
    (omega (arith, last, count), omega (arith, last, count), subst (All (Contains clause)) (sym same) (All-contains_itself clause))
