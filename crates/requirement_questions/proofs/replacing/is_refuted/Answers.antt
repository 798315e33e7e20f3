use Rattle.std.proofs.Common.{subst}
use Rattle.ltl_syntax.specs.Table.{tree_at}
use Rattle.claim_check.specs.Data.{certificate_in}
use Rattle.requirement_questions.specs.Outcome.{IsOutcome}
use Rattle.requirement_questions.proofs.replacing.is_refuted.Goals as goal

pub returns-in-Impossible : goal.returns-in-Impossible
returns-in-Impossible c =
    let f = tree_at c.args.formula.now.table c.args.formula.now.root in
    let lawful = subst (IsOutcome f c.args.kind) c.in-Impossible.is c.in_ok-ask_of.ensures in
    λ e. c.nothing_satisfies.ensures f c.args.kind (certificate_in c.in-Impossible.field-0) lawful
