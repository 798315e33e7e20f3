use Rattle.std.proofs.Common.{Some, subst}
use Rattle.ltl_syntax.specs.declared.node.Node.TheVariants as nodes
use Rattle.ltl_syntax.specs.declared.node.UnaryOp.TheVariants.{Eventually}
use Rattle.formula_copy.specs.Copy.{IsPut, IsPutOn}
use Rattle.requirement_questions.proofs.Triggers.{eventually_on}
use Rattle.requirement_questions.proofs.triggering.eventually.Goals as goal

pub returns : goal.returns
returns c =
    let s = c.args.table.now in
    let old = c.new-target.result in
    let middle = c.put_tree.new.target in
    let t = c.put_node.new.table in
    let copy = c.in-Some.copy in
    let put : IsPut s c.args.number old middle (Some copy) = subst (IsPut s c.args.number old middle) c.in-Some.is c.in_ok-copy.ensures in
    let on : IsPutOn (nodes.Unary Eventually copy) middle t (Some c.in-Some-2.at) =
    subst (IsPutOn (nodes.Unary Eventually copy) middle t) c.in-Some-2.is c.in_ok-at.ensures in
    eventually_on s middle t c.args.number copy c.in-Some-2.at put.0.tree on.0 on.1
