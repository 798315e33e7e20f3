use Rattle.std.proofs.Common.{None, Some, sym, subst}
use Rattle.std.specs.Prelude.{slice_range}
use Rattle.ltl_parser.specs.Grammar.{Infix, Operator}
use Rattle.ltl_parser.specs.Standing.{Steps, IsTaken, frames, parens, Becomes, IsStopped}
use Rattle.ltl_parser.proofs.Stepping.{infix_steps, close_steps}
use Rattle.ltl_parser.proofs.step.step_operator.Goals as goal

pub returns-in_ok-push-in-Infix-clause-steps : goal.returns-in_ok-push-in-Infix-clause-steps
returns-in_ok-push-in-Infix-clause-steps c =
    let said = c.in-Infix.ensures.symbol (slice_range c.args.text.now c.args.token.start c.args.token.end) in
    let becomes = subst (λ m. Becomes m c.args.table.now c.args.stack.now c.args.operand c.reduce.new.table c.reduce.new.stack c.in_ok-left-in-Infix.left)
    c.left_bound.ensures c.in_ok-left-in-Infix.ensures.held in
    let stopped = subst (λ m. IsStopped m (frames c.reduce.new.table c.reduce.new.stack)) c.left_bound.ensures c.in_ok-left-in-Infix.ensures.stopped in
    subst (λ x. Steps c.args.table.now c.args.stack.now (Some c.args.operand) x c.reduce.new.table c.push.new.self None) (sym said)
    (subst (λ v. Steps c.args.table.now c.args.stack.now (Some c.args.operand) (Infix c.in-Infix.op) c.reduce.new.table v None)
    (sym c.in_ok-push-in-Infix.ensures)
    (infix_steps c.args.table.now c.reduce.new.table c.args.stack.now c.reduce.new.stack c.args.operand c.in_ok-left-in-Infix.left c.in-Infix.op becomes stopped
    c.requires.names))

pub returns-in_ok-inner-in-Close-clause-steps : goal.returns-in_ok-inner-in-Close-clause-steps
returns-in_ok-inner-in-Close-clause-steps c =
    let said = c.in-Close.ensures.symbol (slice_range c.args.text.now c.args.token.start c.args.token.end) in
    let taken = subst (IsTaken Operator (parens (frames c.args.table.now c.args.stack.now))) said c.requires.taken in
    subst (λ x. Steps c.args.table.now c.args.stack.now (Some c.args.operand) x c.reduce-in-Close.new.table c.pop.new.self (Some c.in_ok-inner-in-Close.inner))
    (sym said)
    (close_steps c.args.table.now c.reduce-in-Close.new.table c.args.stack.now c.reduce-in-Close.new.stack c.pop.new.self c.args.operand
    c.in_ok-inner-in-Close.inner c.pop.result c.in_ok-inner-in-Close.ensures.held c.in_ok-inner-in-Close.ensures.stopped c.pop.ensures taken c.requires.names)
