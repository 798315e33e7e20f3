use Rattle.std.proofs.Common.{subst}
use Rattle.ltl_syntax.specs.declared.node.Kind.TheVariants as Kinds
use Rattle.ltl_syntax.specs.Table.{tree_at}
use Rattle.unravel.specs.Decision.{IsDecision}
use Rattle.system_check.specs.declared.deciding.SystemAnswer.TheVariants as answers
use Rattle.system_check.specs.Answer.{IsRefutedAt}
use Rattle.system_check.proofs.AnswerLaws.{on_system, shown_fails}
use Rattle.system_check.proofs.deciding.decide_system.Goals as goal

pub returns-in-Sat : goal.returns-in-Sat
returns-in-Sat c = λ start step goal is.
    shown_fails start step goal c.args.limit c.args.joined.now is c.in-Sat.depth c.in-Sat.trace
    (subst (IsDecision (tree_at c.args.joined.now.table c.args.joined.now.whole) Kinds.Infinite c.args.limit) c.in-Sat.is c.in_ok-depth.ensures)

pub returns-in-None : goal.returns-in-None
returns-in-None c = λ start step goal is.
    let system = tree_at c.args.joined.now.table c.args.joined.now.system in
    let d = subst (IsDecision (tree_at c.args.joined.now.table c.args.joined.now.whole) Kinds.Infinite c.args.limit) c.in-Unsat.is c.in_ok-depth.ensures in
    on_system start step goal c.args.limit c.args.joined.now is (answers.Holds c.in-Unsat.depth c.in-Unsat.log c.in-Unsat.targets)
    (subst (IsRefutedAt system c.args.limit) c.in-None.is c.in_ok-depth-in-Unsat.ensures, d.0, d.1)
