use Rattle.std.proofs.Common.{Some, sym, subst}
use Rattle.std.proofs.lemmas.Result.{IfOk-weaker}
use Rattle.ltl_syntax.specs.declared.node.Node.TheVariants as nodes
use Rattle.ltl_syntax.specs.declared.node.BinaryOp.TheVariants.{And}
use Rattle.formula_copy.specs.Copy.{IsPutOn}
use Rattle.requirement_questions.specs.Joining.{part_formula, IsPartPut, StandsIn, joined_at, IsBuilt, IsAdded}
use Rattle.requirement_questions.proofs.Putting.{may_join, and_put}
use Rattle.requirement_questions.proofs.joining.add.Goals as goal

pub put_node-requires : goal.put_node-requires
put_node-requires c =
    let f = part_formula c.args.given c.args.negated in
    let old = c.args.table.now in
    let middle = c.put_part.new.table in
    let stands : StandsIn f old middle c.in-Some.number = subst (IsPartPut f old middle) c.in-Some.is c.in_ok-number.ensures in
    let built : IsBuilt old (Some c.in-Some-root.before) = subst (IsBuilt old) c.in-Some-root.is c.requires.built in
    may_join f old middle c.in-Some-root.before c.in-Some.number built stands

pub returns-in-Some-root : goal.returns-in-Some-root
returns-in-Some-root c =
    let f = part_formula c.args.given c.args.negated in
    let old = c.args.table.now in
    let middle = c.put_part.new.table in
    let t = c.put_node.new.table in
    let before = c.in-Some-root.before in
    let number = c.in-Some.number in
    let stands : StandsIn f old middle number = subst (IsPartPut f old middle) c.in-Some.is c.in_ok-number.ensures in
    let built : IsBuilt old (Some before) = subst (IsBuilt old) c.in-Some-root.is c.requires.built in
    IfOk-weaker c.put_node.result (IsPutOn (nodes.Binary And before number) middle t) (IsAdded (joined_at old c.args.root) f t)
    (λ r h. subst (λ root. IsAdded (joined_at old root) f t r) (sym c.in-Some-root.is) (and_put f old middle t before number r built stands h))
    c.put_node.ensures
