-- A node and its children.
use Rattle.std.proofs.Common.{◌≡◌, ℕ, ◌<◌, ◌≤◌, ◌||◌, ◌==◌, Bool, true, false, List, [], length, slice_index_or, IsTrue, Contains, ◌↔◌, refl, sym, ◌∙◌, subst}
use Rattle.std.proofs.Common.{arith}
use Rattle.std.proofs.lemmas.List.{get_or_default}
use Rattle.ltl_syntax.specs.Formula.{Name, Letter}
use Rattle.ltl_syntax.specs.declared.node.UnaryOp.{UnaryOp}
use Rattle.ltl_syntax.specs.declared.node.BinaryOp.{BinaryOp}
use Rattle.ltl_syntax.specs.declared.node.Node.TheVariants as nodes
use Rattle.ltl_syntax.specs.Table.{has_child}
use Rattle.ltl_word.specs.declared.trace.Trace.{Trace}
use Rattle.ltl_word.specs.declared.trace.Trace.TheVariants.{Infinite, Finite}
use Rattle.ltl_word.specs.Trace.{state_at}
use Rattle.lasso_eval.specs.declared.extent.Extent.{Extent}
use Rattle.lasso_eval.specs.Cells.{columns, loop_start}
use Rattle.lasso_eval.specs.Rows.{cell, row_at, Tells}
use Rattle.lasso_eval.specs.Extent.{IsExtent}

pub child_row : (rows : List (List Bool)) (a : ℕ) (read row : List Bool) → a < length rows → row ≡ read → read ≡ slice_index_or rows a read
    → row ≡ row_at rows a
child_row rows a read row low same is = same ∙ is ∙ get_or_default rows a read [] low

start_at_most : (t : Trace) (depth : ℕ) → loop_start t depth ≤ columns t depth
start_at_most (Infinite stem loop_part) depth = omega arith
start_at_most (Finite states) depth = omega arith

pub start_within : (t : Trace) (extent : Extent) → IsExtent t extent → extent.loop_start ≤ extent.columns
start_within t extent is = omega (arith, is.columns_are, is.loop_starts, start_at_most t extent.depth)

self_equal : (a : ℕ) → (a == a) ≡ true
self_equal a = grind arith

pub is_only : (op : UnaryOp) (a : ℕ) → IsTrue (has_child a (nodes.Unary op a))
is_only op a = self_equal a

pub is_left : (op : BinaryOp) (a b : ℕ) → IsTrue (has_child a (nodes.Binary op a b))
is_left op a b = rw (self_equal a) refl

or_true : (x y : Bool) → y ≡ true → (x || y) ≡ true
or_true true y e = refl
or_true false y e = e

pub is_right : (op : BinaryOp) (a b : ℕ) → IsTrue (has_child b (nodes.Binary op a b))
is_right op a b = or_true (a == b) (b == b) (self_equal b)

pub letter_tells : (t : Trace) (depth n : ℕ) (text name : List ℕ) (row : List Bool) → name ≡ text → n ≡ columns t depth → length row ≡ n
    → ((i : ℕ) → i < n → IsTrue (cell row i) ↔ Contains (state_at t i) text) → Tells t depth (Letter (Name name)) row
letter_tells t depth n text name row same e count each = record {
  count = count ∙ e;
  right = λ i h. subst (λ s. IsTrue (cell row i) ↔ Contains (state_at t i) s) (sym same) (each i (omega (arith, e, h)));
}
