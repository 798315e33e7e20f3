use Rattle.std.proofs.Common.{None, Some, sym, subst}
use Rattle.std.specs.Prelude.{slice_range}
use Rattle.ltl_syntax.specs.Formula.{Const, Name, Letter}
use Rattle.ltl_parser.specs.Grammar.{Prefix}
use Rattle.ltl_parser.specs.Standing.{Steps}
use Rattle.ltl_parser.proofs.Stepping.{leaf_steps, prefix_steps}
use Rattle.ltl_parser.proofs.Readings.{prefix_ordered}
use Rattle.ltl_parser.proofs.step.step_operand.Goals as goal

pub returns-in_ok-number-in-Constant-clause-steps :
    goal.returns-in_ok-number-in-Constant-clause-steps
returns-in_ok-number-in-Constant-clause-steps c =
    let said = c.in-Constant.ensures.symbol (slice_range c.args.text.now c.args.token.start c.args.token.end) in
    subst (λ x. Steps c.args.table.now c.args.stack.now None x c.push_constant.new.table c.args.stack.now (Some c.in_ok-number-in-Constant.number)) (sym said)
    (leaf_steps c.args.table.now c.push_constant.new.table c.args.stack.now (Const c.in-Constant.value)
    c.in_ok-number-in-Constant.number c.in_ok-number-in-Constant.ensures.leaf c.requires.ready c.requires.names)

pub returns-in_ok-number-in-Name-clause-steps : goal.returns-in_ok-number-in-Name-clause-steps
returns-in_ok-number-in-Name-clause-steps c =
    let bytes = slice_range c.args.text.now c.args.token.start c.args.token.end in
    let said = c.in-Name.ensures.symbol bytes in
    subst (λ x. Steps c.args.table.now c.args.stack.now None x c.push_letter.new.table c.args.stack.now (Some c.in_ok-number-in-Name.number)) (sym said)
    (leaf_steps c.args.table.now c.push_letter.new.table c.args.stack.now (Letter (Name bytes))
    c.in_ok-number-in-Name.number c.in_ok-number-in-Name.ensures.leaf c.requires.ready c.requires.names)

pub returns-in_ok-push-in-Prefix-clause-steps : goal.returns-in_ok-push-in-Prefix-clause-steps
returns-in_ok-push-in-Prefix-clause-steps c =
    let said = c.in-Prefix.ensures.symbol (slice_range c.args.text.now c.args.token.start c.args.token.end) in
    let order = prefix_ordered c.args.text.now c.args.token c.in-Prefix.op c.requires.fitting said in
    subst (λ x. Steps c.args.table.now c.args.stack.now None x c.args.table.now c.push.new.self None) (sym said)
    (subst (λ v. Steps c.args.table.now c.args.stack.now None (Prefix c.in-Prefix.op) c.args.table.now v None) (sym c.in_ok-push-in-Prefix.ensures)
    (prefix_steps c.args.table.now c.args.stack.now c.in-Prefix.op order c.requires.ready c.requires.names))
