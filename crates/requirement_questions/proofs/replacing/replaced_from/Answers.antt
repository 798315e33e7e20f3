use Rattle.std.proofs.Common.{IfOk, IfSome, ap₂, subst}
use Rattle.ltl_syntax.specs.Table.{tree_at}
use Rattle.core_extract.specs.Testing.{formula_of}
use Rattle.requirement_questions.specs.Replacing.{IsReplaced}
use Rattle.requirement_questions.proofs.replacing.replaced_from.Goals as goal

pub returns : goal.returns
returns c =
    let task = c.in_ok-task.task in
    let is = c.in_ok-task.ensures in
    let kind = subst (λ k. IfOk c.pass.result (λ found. IfSome found (λ r. IsReplaced k (formula_of task) r.value))) is.kind c.pass.ensures in
    subst (λ f. IfOk c.pass.result (λ found. IfSome found (λ r. IsReplaced c.args.kind f r.value))) (ap₂ tree_at is.table is.root) kind
