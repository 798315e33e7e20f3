-- Where `G f` fails, `f` fails at one of the positions that tell all about it.
use Rattle.std.proofs.Common.{◌≡◌, inl, inr, ℕ, zero, suc, ◌+◌, ◌-◌, ◌*◌, ◌<◌, ◌≤◌, ◌↔◌, Bool, true, ◌==◌, List, length, slice_get, Some, IsTrue, refl, sym}
use Rattle.std.proofs.Common.{subst, arith}
use Rattle.std.proofs.lemmas.Bool.{cases_lt}
use Rattle.std.proofs.lemmas.Bool.Decides.{nat_tests}
use Rattle.ltl_syntax.specs.declared.node.Node.TheVariants as nodes
use Rattle.ltl_syntax.specs.Table.{Table, tree_at}
use Rattle.ltl_syntax.specs.declared.node.UnaryOp.TheVariants.{Always}
use Rattle.ltl_syntax.specs.Formula.{Formula, Unary, nodes_in}
use Rattle.ltl_word.specs.declared.trace.Trace.{Trace}
use Rattle.ltl_word.specs.declared.trace.Trace.TheVariants.{Infinite, Finite}
use Rattle.ltl_word.specs.Trace.{IsTrace, IsPosition}
use Rattle.ltl_word.specs.Depth.{past_depth}
use Rattle.ltl_word.specs.Holds.{Holds, Satisfies}
use Rattle.ltl_word.proofs.Periodicity.{Holds-repeats}
use Rattle.ltl_syntax.proofs.Places.{nodes_some}
use Rattle.lasso_eval.specs.Cells.{columns, positions, cells, max_cells}
use Rattle.lasso_eval.specs.Rows.{cell, row_at, IsRow, AreValues}
use Rattle.ltl_syntax.specs.Under.{Here, Below}
use Rattle.requirement_questions.specs.Failure.{FailsFirst, IsFirstFalse}

-- what holds in the columns holds at each position
all_positions : (t : Trace) (a : Formula) (depth : ℕ) → past_depth a ≤ depth → IsTrace t → ((i : ℕ) → i < columns t depth → Holds t a i)
    → (i : ℕ) → IsPosition t i → Holds t a i
all_positions (Finite states) a depth deep some all i at = all i at
all_positions (Infinite stem loop_part) a depth deep some all i at = up_to (suc i) i (omega arith)
  where
    up_to : (fuel i : ℕ) → i < fuel → Holds (Infinite stem loop_part) a i
    up_to zero i lt = absurd (omega arith)
    up_to (suc fuel) i lt = elim (cases_lt i (columns (Infinite stem loop_part) depth)) [
      | inl low ↦ all i low
      | inr high ↦
          let back : (i - length loop_part) + length loop_part ≡ i = omega arith in
          let later : length stem + depth * length loop_part ≤ i - length loop_part = omega arith in
          subst (Holds (Infinite stem loop_part) a) back
          ((Holds-repeats stem loop_part some a depth deep).later (i - length loop_part) later
          (up_to fuel (i - length loop_part) (omega arith)))
    ]

-- each column is a position
is_position : (t : Trace) (depth i : ℕ) → i < columns t depth → IsPosition t i
is_position (Infinite stem loop_part) depth i lt = tt
is_position (Finite states) depth i lt = lt

pub few_columns : (t : Trace) (f : Formula) → cells t f ≤ max_cells → positions t f < 4294967295
few_columns t f few = some (nodes_in f) (nodes_some f) few
  where
    some : (n : ℕ) → 1 ≤ n → n * positions t f ≤ max_cells → positions t f < 4294967295
    some zero lt le = absurd (omega arith)
    some (suc n) lt le = omega arith

pub always_fails : (t : Trace) (a : Formula) (row : List Bool) (j : ℕ) → IsTrace t → IsRow (positions t (Unary Always a)) (Holds t a) row → IsFirstFalse row j
    → ¬ Satisfies t (Unary Always a) → FailsFirst t (Unary Always a) j
always_fails t a row j good is first fails = elim (cases_lt j (length row)) [
  | inl lt ↦ (
    is_position t (past_depth (Unary Always a)) j (subst (λ n. j < n) is.count lt),
    λ h. let false_here = first.at lt in let true_here = (is.right j (subst (λ n. j < n) is.count lt)).1 h in cc,
    λ i low. (is.right i (omega (arith, is.count, lt, low))).0 (first.before i low),
  )
  | inr le ↦ absurd (fails (λ i w. all_positions t a (past_depth (Unary Always a)) (omega arith) good
      (λ k low. (is.right k low).0 (first.before k (omega (arith, is.count, le, low)))) i w.1))
]

-- ---- the rows of a table

some_columns : (t : Trace) (depth : ℕ) → IsTrace t → 0 < columns t depth
some_columns (Infinite stem loop_part) depth some = omega arith
some_columns (Finite states) depth some = some

itself : (n : ℕ) → (n == n) ≡ true
itself n = grind (arith, nat_tests)

module _ (s : Table) (root : ℕ) (t : Trace) (rows : List (List Bool)) (values : AreValues s root t rows) where
  pub first_column : IsTrace t → 0 < length (row_at rows root)
  first_column good = subst (λ n. 0 < n) (sym (values root (Here root refl)).count) (some_columns t (past_depth (tree_at s root)) good)

  pub first_cell : IsTrace t → IsTrue (cell (row_at rows root) 0) ↔ Satisfies t (tree_at s root)
  first_cell good = (values root (Here root refl)).right 0 (some_columns t (past_depth (tree_at s root)) good)

  module _ (part : ℕ) (is : slice_get s.nodes root ≡ Some (nodes.Unary Always part)) (tree : tree_at s root ≡ Unary Always (tree_at s part)) where
    part_row : IsRow (positions t (Unary Always (tree_at s part))) (Holds t (tree_at s part)) (row_at rows part)
    part_row = subst (λ f. IsRow (positions t f) (Holds t (tree_at s part)) (row_at rows part)) tree
        (values part (Below root part (nodes.Unary Always part) (Here root refl) is (itself part)))

    pub few_in_row : cells t (tree_at s root) ≤ max_cells → length (row_at rows part) < 4294967295
    few_in_row few =
        subst (λ n. n < 4294967295) (sym part_row.count) (few_columns t (Unary Always (tree_at s part)) (subst (λ f. cells t f ≤ max_cells) tree few))

    pub fails_first : (j : ℕ) → IsTrace t → IsFirstFalse (row_at rows part) j → ¬ Satisfies t (tree_at s root) → FailsFirst t (tree_at s root) j
    fails_first j good first fails =
        subst (λ f. FailsFirst t f j) (sym tree)
        (always_fails t (tree_at s part) (row_at rows part) j good part_row first (subst (λ f. ¬ Satisfies t f) tree fails))
