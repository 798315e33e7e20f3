-- What a task says of the places of its formula.
use Rattle.std.proofs.Common.{◌≡◌, ℕ, ◌+◌, ◌<◌, ◌≤◌, subst, ap, arith, ◌∙◌, List, length, get_or, All, Contains}
use Rattle.std.proofs.lemmas.List.Elements.{Contains-get_or}
use Rattle.ltl_syntax.specs.Formula.{HasNoFresh, nodes_in}
use Rattle.ltl_syntax.specs.Table.{Table, IsTable, tree_at}
use Rattle.ltl_syntax.specs.Flat.{order_at, node_at}
use Rattle.ltl_syntax.specs.Replacement.{part_at}
use Rattle.ltl_syntax.proofs.Places.{nodes_some, part_within}
use Rattle.ltl_syntax.proofs.Orders.{order_long, order_part}
use Rattle.ltl_syntax.proofs.Distinct.{order_low}
use Rattle.ltl_syntax.proofs.Few.{order_few, tree_few}
use Rattle.core_extract.proofs.Members.{read}
use Rattle.core_extract.specs.declared.task.Task.{Task}
use Rattle.core_extract.specs.Testing.{IsTask, formula_of}

-- the size of a tree of a table is small
pub size_small : (t : Table) → IsTable t.nodes t.names → (sizes : List ℕ) (number a x : ℕ) → number < length t.nodes → length sizes ≡ number
    → ((k : ℕ) → k < number → get_or sizes k 0 ≡ nodes_in (tree_at t k)) → a < number → x ≡ get_or sizes a x → x ≤ 16384
size_small t is sizes number a x low long each lt e =
    let value = read sizes a x 0 (omega arith) e in
    let size = each a lt in
    let few = tree_few t is a (omega arith) in omega arith

pub order_under : (t : Table) (root : ℕ) (order : List ℕ) (count : ℕ) → IsTable t.nodes t.names → root < length t.nodes → order ≡ order_at t root
    → count ≡ length t.nodes → All (λ number. number < count) order
order_under t root order count is lt same all k d low =
    let member : Contains (order_at t root) (get_or order k d) = subst (λ xs. Contains xs (get_or order k d)) same (Contains-get_or order k d low) in
    let i = order_low t is root lt (get_or order k d) member in omega arith

module _ (task : Task) where
  pub task_made : (by_node : List ℕ) → IsTable task.table.now.nodes task.table.now.names → task.root < length task.table.now.nodes
      → HasNoFresh (formula_of task)
      → task.order.items ≡ order_at task.table.now task.root
      → length task.sizes.items ≡ length task.order.items
      → ((n : ℕ) → n < length task.order.items → get_or task.sizes.items n 0 ≡ get_or by_node (get_or task.order.items n 0) 0)
      → ((k : ℕ) → k < length task.table.now.nodes → get_or by_node k 0 ≡ nodes_in (tree_at task.table.now k)) → task.asked ≤ 1000 → IsTask task
  task_made by_node is root given order long sizes nodes asked = record {
    table = is;
    root = root;
    given = given;
    order = order;
    long = long;
    sizes = λ n lt.
        let all = ap length order in
        let here : get_or task.order.items n 0 ≡ node_at task.table.now task.root n = ap (λ xs. get_or xs n 0) order in
        let low = order_low task.table.now is task.root root (node_at task.table.now task.root n)
        (Contains-get_or (order_at task.table.now task.root) n 0 (omega arith)) in
        sizes n lt
        ∙ (ap (λ m. get_or by_node m 0) here
        ∙ (nodes (node_at task.table.now task.root n) (omega arith)
        ∙ ap nodes_in (order_part task.table.now is task.root root n (omega arith))));
    few = let few = order_few task.table.now is task.root root in let all = ap length order in let most = is.few in omega arith;
    asked = asked;
  }

  module _ (is : IsTask task) where
    pub places_all : length task.order.items ≡ nodes_in (formula_of task)
    places_all = ap length is.order ∙ order_long task.table.now is.table task.root is.root

    pub node_within : (n : ℕ) → n < length task.order.items → get_or task.order.items n 0 < length task.table.now.nodes
    node_within n lt =
        let all = ap length is.order in
        let here : get_or task.order.items n 0 ≡ node_at task.table.now task.root n = ap (λ xs. get_or xs n 0) is.order in
        let low = order_low task.table.now is.table task.root is.root (node_at task.table.now task.root n)
        (Contains-get_or (order_at task.table.now task.root) n 0 (omega arith)) in
        let root = is.root in omega arith

    pub size_some : (n : ℕ) → n < length task.order.items → 1 ≤ get_or task.sizes.items n 0
    size_some n lt = let e = is.sizes n lt in let some = nodes_some (part_at (formula_of task) n) in omega arith

    pub size_within : (n : ℕ) → n < length task.order.items → n + get_or task.sizes.items n 0 ≤ length task.order.items
    size_within n lt =
        let all = places_all in
        let e = is.sizes n lt in
        let w = part_within (formula_of task) n (omega arith) in omega arith
