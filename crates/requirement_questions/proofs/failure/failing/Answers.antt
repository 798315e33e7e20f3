use Rattle.std.proofs.Common.{◌≡◌, ◌∙◌, ◌<◌, Some, slice_get, length, sym, ap, subst, arith}
use Rattle.ltl_syntax.specs.declared.node.Node.TheVariants as nodes
use Rattle.ltl_syntax.specs.declared.node.UnaryOp.TheVariants.{Always}
use Rattle.ltl_syntax.specs.Formula.{Unary}
use Rattle.ltl_syntax.specs.Table.{tree_at, trees_of, made, IsFine}
use Rattle.ltl_word.specs.Holds.{Satisfies}
use Rattle.requirement_questions.specs.Failure.{FailsFirst}
use Rattle.requirement_questions.proofs.Triggers.{is_always, fails_at_once}
use Rattle.requirement_questions.proofs.Failing.{few_in_row, fails_first}
use Rattle.requirement_questions.proofs.failure.failing.Goals as goal

pub returns-in_default : goal.returns-in_default
returns-in_default c =
    let s = c.args.table.now in
    let t = c.args.trace.now in
    let tree = c.node.ensures.tree in
    subst (λ f. FailsFirst t f 0) (sym tree)
    (fails_at_once s.names (trees_of s) t c.node.result (sym c.always_child.ensures ∙ c.in_default.is) (subst (λ f. ¬ Satisfies t f) tree c.requires.fails))

pub first_false-requires-clause-there : goal.first_false-requires-clause-there
first_false-requires-clause-there c =
    let s = c.args.table.now in
    let is = is_always c.node.result c.in-Some.part (sym c.always_child.ensures ∙ c.in-Some.is) in
    let low : c.in-Some.part < c.args.root = subst (IsFine (length s.names) c.args.root) is c.node.ensures.below in
    omega (arith, low, c.requires.many)

pub first_false-requires-clause-few : goal.first_false-requires-clause-few
first_false-requires-clause-few c =
    let s = c.args.table.now in
    let part = c.in-Some.part in
    let is = is_always c.node.result part (sym c.always_child.ensures ∙ c.in-Some.is) in
    let node : slice_get s.nodes c.args.root ≡ Some (nodes.Unary Always part) = c.node.ensures.node ∙ ap Some is in
    let tree : tree_at s c.args.root ≡ Unary Always (tree_at s part) = c.node.ensures.tree ∙ ap (made s.names (trees_of s)) is in
    few_in_row s c.args.root c.args.trace.now c.args.rows.now c.requires.rows part node tree c.requires.few

pub returns : goal.returns
returns c =
    let s = c.args.table.now in
    let part = c.in-Some.part in
    let is = is_always c.node.result part (sym c.always_child.ensures ∙ c.in-Some.is) in
    let node : slice_get s.nodes c.args.root ≡ Some (nodes.Unary Always part) = c.node.ensures.node ∙ ap Some is in
    let tree : tree_at s c.args.root ≡ Unary Always (tree_at s part) = c.node.ensures.tree ∙ ap (made s.names (trees_of s)) is in
    fails_first s c.args.root c.args.trace.now c.args.rows.now c.requires.rows part node tree c.first_false.result c.requires.trace
    c.first_false.ensures c.requires.fails
