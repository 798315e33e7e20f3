use Rattle.std.proofs.Common.{◌≤◌, slice_index_or, IfOk, sym, subst, ◌∙◌, arith, []}
use Rattle.std.proofs.lemmas.Option.{get_or_from_slice_get}
use Rattle.std.proofs.lemmas.Result.{IfOk-weaker}
use Rattle.ltl_syntax.specs.Table.{tree_at}
use Rattle.ltl_syntax.specs.declared.node.Node.TheVariants as nodes
use Rattle.ltl_word.specs.Depth.{past_depth}
use Rattle.lasso_eval.specs.Rows.{Tells}
use Rattle.lasso_eval.proofs.Results.{if_ok_both}
use Rattle.lasso_eval.proofs.Nodes.{child_row, start_within, is_left, is_right, is_only, letter_tells}
use Rattle.lasso_eval.proofs.node_row.node_row.Goals as goal

told_of_one : (c : goal.After-cells) → Tells c.args.trace.now c.args.extent.depth (tree_at c.args.table.now c.in-Unary.a) c.cells.result.now
told_of_one c =
    let below = c.in-Unary.ensures.below in
    subst (λ r. Tells c.args.trace.now c.args.extent.depth (tree_at c.args.table.now c.in-Unary.a) r)
    (sym (child_row c.args.rows.now c.in-Unary.a c.index-rows-a.result c.cells.result.now (omega (
      arith,
      below,
      c.requires.place,
    )) c.cells.ensures c.index-rows-a.is))
    (c.requires.children (nodes.Unary c.in-Unary.op c.in-Unary.a) c.in-Unary.a below c.in-Unary.ensures.node (is_only c.in-Unary.op c.in-Unary.a))

pub unary_row-requires-clause-few : goal.unary_row-requires-clause-few
unary_row-requires-clause-few c = let told = told_of_one c in omega (arith, told.count, c.requires.extent.columns_are, c.requires.extent.few)

pub unary_row-requires-clause-within : goal.unary_row-requires-clause-within
unary_row-requires-clause-within c = let told = told_of_one c in
    omega (arith, told.count, start_within c.args.trace.now c.args.extent c.requires.extent, c.requires.extent.columns_are)

told_of_left : (c : goal.After-cells-b) → Tells c.args.trace.now c.args.extent.depth (tree_at c.args.table.now c.in-Binary.a) c.cells-a.result.now
told_of_left c =
    let below = c.in-Binary.ensures.below in
    subst (λ r. Tells c.args.trace.now c.args.extent.depth (tree_at c.args.table.now c.in-Binary.a) r)
    (sym (child_row c.args.rows.now c.in-Binary.a c.index-rows-a-in-Binary.result c.cells-a.result.now (omega (
      arith,
      below.0,
      c.requires.place,
    )) c.cells-a.ensures c.index-rows-a-in-Binary.is))
    (c.requires.children (nodes.Binary c.in-Binary.op c.in-Binary.a c.in-Binary.b) c.in-Binary.a below.0 c.in-Binary.ensures.node
    (is_left c.in-Binary.op c.in-Binary.a c.in-Binary.b))

told_of_right : (c : goal.After-cells-b) → Tells c.args.trace.now c.args.extent.depth (tree_at c.args.table.now c.in-Binary.b) c.cells-b.result.now
told_of_right c =
    let below = c.in-Binary.ensures.below in
    subst (λ r. Tells c.args.trace.now c.args.extent.depth (tree_at c.args.table.now c.in-Binary.b) r)
    (sym (child_row c.args.rows.now c.in-Binary.b c.index-rows-b.result c.cells-b.result.now (omega (
      arith,
      below.1,
      c.requires.place,
    )) c.cells-b.ensures c.index-rows-b.is))
    (c.requires.children (nodes.Binary c.in-Binary.op c.in-Binary.a c.in-Binary.b) c.in-Binary.b below.1 c.in-Binary.ensures.node
    (is_right c.in-Binary.op c.in-Binary.a c.in-Binary.b))

pub binary_row-requires-clause-same : goal.binary_row-requires-clause-same
binary_row-requires-clause-same c = let a = told_of_left c in let b = told_of_right c in a.count ∙ sym b.count

pub binary_row-requires-clause-within : goal.binary_row-requires-clause-within
binary_row-requires-clause-within c = let told = told_of_left c in
    omega (arith, told.count, start_within c.args.trace.now c.args.extent c.requires.extent, c.requires.extent.columns_are)

pub returns-in-Letter : goal.returns-in-Letter
returns-in-Letter c =
    let known = get_or_from_slice_get c.args.table.now.names c.in-Letter.letter c.name_of.result.now [] c.name_of.ensures.name in
    subst (λ f. IfOk c.letter_row.result (Tells c.args.trace.now c.args.extent.depth f)) (sym c.in-Letter.ensures.tree)
    (if_ok_both c.letter_row.result _ _ _
    (λ row count each. letter_tells c.args.trace.now c.args.extent.depth c.args.extent.columns c.name_of.result.now
    (slice_index_or c.args.table.now.names c.in-Letter.letter []) row known c.requires.extent.columns_are count each)
    c.letter_row.ensures.count c.letter_row.ensures.each)

told_of_one_after : (c : goal.After-unary_row) → Tells c.args.trace.now c.args.extent.depth (tree_at c.args.table.now c.in-Unary.a) c.cells.result.now
told_of_one_after c =
    let below = c.in-Unary.ensures.below in
    subst (λ r. Tells c.args.trace.now c.args.extent.depth (tree_at c.args.table.now c.in-Unary.a) r)
    (sym (child_row c.args.rows.now c.in-Unary.a c.index-rows-a.result c.cells.result.now (omega (
      arith,
      below,
      c.requires.place,
    )) c.cells.ensures c.index-rows-a.is))
    (c.requires.children (nodes.Unary c.in-Unary.op c.in-Unary.a) c.in-Unary.a below c.in-Unary.ensures.node (is_only c.in-Unary.op c.in-Unary.a))

pub returns-in-Unary : goal.returns-in-Unary
returns-in-Unary c =
    let tree = c.in-Unary.ensures.tree in
    let told = told_of_one_after c in
    subst (λ f. IfOk c.unary_row.result (Tells c.args.trace.now c.args.extent.depth f)) (sym tree)
    (IfOk-weaker c.unary_row.result _ _
    (λ row follows. follows c.args.trace.now c.args.extent.depth (tree_at c.args.table.now c.in-Unary.a) c.requires.extent.trace c.requires.extent.loop_starts
    (subst (λ f. past_depth f ≤ c.args.extent.depth) tree c.requires.deep) told)
    c.unary_row.ensures)

told_of_left_after : (c : goal.After-binary_row) → Tells c.args.trace.now c.args.extent.depth (tree_at c.args.table.now c.in-Binary.a) c.cells-a.result.now
told_of_left_after c =
    let below = c.in-Binary.ensures.below in
    subst (λ r. Tells c.args.trace.now c.args.extent.depth (tree_at c.args.table.now c.in-Binary.a) r)
    (sym (child_row c.args.rows.now c.in-Binary.a c.index-rows-a-in-Binary.result c.cells-a.result.now (omega (
      arith,
      below.0,
      c.requires.place,
    )) c.cells-a.ensures c.index-rows-a-in-Binary.is))
    (c.requires.children (nodes.Binary c.in-Binary.op c.in-Binary.a c.in-Binary.b) c.in-Binary.a below.0 c.in-Binary.ensures.node
    (is_left c.in-Binary.op c.in-Binary.a c.in-Binary.b))

told_of_right_after : (c : goal.After-binary_row) → Tells c.args.trace.now c.args.extent.depth (tree_at c.args.table.now c.in-Binary.b) c.cells-b.result.now
told_of_right_after c =
    let below = c.in-Binary.ensures.below in
    subst (λ r. Tells c.args.trace.now c.args.extent.depth (tree_at c.args.table.now c.in-Binary.b) r)
    (sym (child_row c.args.rows.now c.in-Binary.b c.index-rows-b.result c.cells-b.result.now (omega (
      arith,
      below.1,
      c.requires.place,
    )) c.cells-b.ensures c.index-rows-b.is))
    (c.requires.children (nodes.Binary c.in-Binary.op c.in-Binary.a c.in-Binary.b) c.in-Binary.b below.1 c.in-Binary.ensures.node
    (is_right c.in-Binary.op c.in-Binary.a c.in-Binary.b))

pub returns-in-Binary : goal.returns-in-Binary
returns-in-Binary c =
    let tree = c.in-Binary.ensures.tree in
    subst (λ f. IfOk c.binary_row.result (Tells c.args.trace.now c.args.extent.depth f)) (sym tree)
    (IfOk-weaker c.binary_row.result _ _
    (λ row follows. follows c.args.trace.now c.args.extent.depth (tree_at c.args.table.now c.in-Binary.a) (tree_at c.args.table.now c.in-Binary.b)
    c.requires.extent.trace c.requires.extent.loop_starts
    (subst (λ f. past_depth f ≤ c.args.extent.depth) tree c.requires.deep) (told_of_left_after c) (told_of_right_after c))
    c.binary_row.ensures)
