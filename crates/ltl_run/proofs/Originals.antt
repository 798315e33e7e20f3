-- A tree of a table without fresh letters is one that a text can write.
use Rattle.std.proofs.Common.{ℕ, ◌<◌, subst, arith, sym, length}
use Rattle.ltl_syntax.specs.declared.node.Node.{Node}
use Rattle.ltl_syntax.specs.declared.node.Node.TheVariants as nodes
use Rattle.ltl_syntax.specs.Formula.{Formula, HasNoFresh}
use Rattle.ltl_syntax.specs.Table.{Table, made, trees_of, tree_at, IsFine, IsTable}
use Rattle.ltl_syntax.proofs.Orders.{by_children}
use Rattle.ltl_syntax.proofs.Trees.{node_tree}
use Rattle.ltl_syntax.proofs.Few.{tree_few}
use Rattle.ltl_run.specs.Extension.{IsOriginal, IsGiven}

module _ (t : Table) (is : IsTable t.nodes t.names) where
  IsStep : Formula → Type 0
  IsStep f = HasNoFresh f → IsOriginal f

  original_step : (k : ℕ) (node : Node) → IsFine (length t.names) k node → ((j : ℕ) → j < k → IsStep (tree_at t j)) → IsStep (made t.names (trees_of t) node)
  unfolding IsStep
  original_step k (nodes.Const b) fine all = λ none. tt
  original_step k (nodes.Letter n) fine all = λ none. is.plain n fine
  original_step k (nodes.Fresh n) fine all = λ none. none
  original_step k (nodes.Unary op a) fine all = all a fine
  original_step k (nodes.Binary op a b) fine all = λ none. (all a fine.0 none.0, all b fine.1 none.1)

  pub table_original : (k : ℕ) → k < length t.nodes → HasNoFresh (tree_at t k) → IsOriginal (tree_at t k)
  unfolding IsStep
  table_original = by_children t is (λ k. IsStep (tree_at t k)) (λ k node e fine all.
      subst IsStep (sym (node_tree t is k node e)) (original_step k node fine all))

  pub table_given : (k : ℕ) → k < length t.nodes → HasNoFresh (tree_at t k) → IsGiven (tree_at t k)
  table_given k lt none = (table_original k lt none, (let few = tree_few t is k lt in omega arith))
