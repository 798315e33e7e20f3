use Rattle.std.proofs.Common.{◌≤◌, arith}
use Rattle.ltl_syntax.specs.Table.{tree_at}
use Rattle.lasso_eval.proofs.Counting.{some_nodes, factor_within}
use Rattle.lasso_eval.proofs.evaluate.values.Goals as goal

pub overflow_cast-columns : goal.overflow_cast-columns
overflow_cast-columns c =
    let some : 1 ≤ c.in_ok-under.under.count = omega (arith, c.in_ok-under.ensures.count, some_nodes (tree_at c.args.table.now c.args.root)) in
    let few = factor_within c.in_ok-under.under.count c.columns_of-columns.result 67108864 some c.if-cells-gt-MAX_CELLS.false in
    omega (arith, few)

pub filled-requires-clause-extent : goal.filled-requires-clause-extent
filled-requires-clause-extent c =
    let some : 1 ≤ c.in_ok-under.under.count = omega (arith, c.in_ok-under.ensures.count, some_nodes (tree_at c.args.table.now c.args.root)) in
    record {
      trace = c.requires.trace;
      columns_are = c.columns_of-columns.ensures.count;
      few = factor_within c.in_ok-under.under.count c.columns_of-columns.result 67108864 some c.if-cells-gt-MAX_CELLS.false;
      loop_starts = c.loop_start_of.ensures;
    }
