use Rattle.std.proofs.Common.{Some, sym, subst}
use Rattle.std.proofs.lemmas.Result.{IfOk-weaker}
use Rattle.ltl_syntax.specs.declared.node.Node.TheVariants as nodes
use Rattle.ltl_syntax.specs.declared.node.UnaryOp.TheVariants.{Not}
use Rattle.formula_copy.specs.Copy.{IsPut, IsPutOn}
use Rattle.requirement_questions.specs.Formulas.{formula_in}
use Rattle.requirement_questions.specs.Joining.{part_formula, IsPartPut}
use Rattle.requirement_questions.proofs.Putting.{tree_stands, not_put}
use Rattle.requirement_questions.proofs.joining.put_part.Goals as goal

pub returns-then-negated : goal.returns-then-negated
returns-then-negated c =
    let g = c.args.given in
    let old = c.args.table.now in
    let middle = c.put_tree.new.target in
    let t = c.put_node.new.table in
    let number = c.in-Some.number in
    let put : IsPut g.table.now g.root old middle (Some number) = subst (IsPut g.table.now g.root old middle) c.in-Some.is c.in_ok-number.ensures in
    let stands = tree_stands g.table.now old middle g.root number put in
    IfOk-weaker c.put_node.result (IsPutOn (nodes.Unary Not number) middle t) (IsPartPut (part_formula g c.args.negated) old t)
    (λ r h. subst (λ n. IsPartPut (part_formula g n) old t r) (sym c.if-negated.true) (not_put (formula_in g) old middle t number r stands h))
    c.put_node.ensures
