use Rattle.std.proofs.Common.{◌≡◌, ◌∙◌, ◌<◌, length, sym, ap, subst, arith}
use Rattle.ltl_syntax.specs.declared.node.Node.TheVariants as nodes
use Rattle.ltl_syntax.specs.declared.node.UnaryOp.TheVariants.{Always}
use Rattle.ltl_syntax.specs.Table.{tree_at, trees_of, made, IsFine}
use Rattle.requirement_questions.specs.Trigger.{trigger_of}
use Rattle.requirement_questions.proofs.Triggers.{is_always, no_trigger, condition_found}
use Rattle.requirement_questions.proofs.triggering.condition_of.Goals as goal

pub returns-in_default : goal.returns-in_default
returns-in_default c =
    let s = c.args.table.now in
    ap trigger_of c.node.ensures.tree ∙ no_trigger s.names (trees_of s) c.node.result (sym c.always_child.ensures ∙ c.in_default.is)

pub node-requires-2 : goal.node-requires-2
node-requires-2 c =
    let s = c.args.table.now in
    let body = c.in-Some.body in
    let is = is_always c.node.result body (sym c.always_child.ensures ∙ c.in-Some.is) in
    let low : body < c.args.root = subst (IsFine (length s.names) c.args.root) is c.node.ensures.below in
    omega (arith, low, c.requires)

pub returns : goal.returns
returns c =
    let s = c.args.table.now in
    let body = c.in-Some.body in
    let is = is_always c.node.result body (sym c.always_child.ensures ∙ c.in-Some.is) in
    let low : body < c.args.root = subst (IsFine (length s.names) c.args.root) is c.node.ensures.below in
    let always : tree_at s c.args.root ≡ made s.names (trees_of s) (nodes.Unary Always body) = c.node.ensures.tree ∙ ap (made s.names (trees_of s)) is in
    condition_found s c.args.root body c.node-2.result c.condition_child.result (omega (arith, low, c.requires))
    always c.node-2.ensures.tree c.node-2.ensures.below c.condition_child.ensures
