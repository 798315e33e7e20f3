use Rattle.std.proofs.Common.{◌<◌, ◌↔◌, IsTrue, refl, sym, subst, arith}
use Rattle.ltl_syntax.specs.Table.{tree_at}
use Rattle.ltl_word.specs.Depth.{past_depth}
use Rattle.ltl_word.specs.Holds.{Satisfies}
use Rattle.lasso_eval.specs.Cells.{positions}
use Rattle.ltl_syntax.specs.Under.{Here}
use Rattle.lasso_eval.proofs.Counting.{some_columns}
use Rattle.lasso_eval.proofs.evaluate.holds.Goals as goal

pub at-requires : goal.at-requires
at-requires c =
    let told = c.in_ok-values.ensures.ok c.args.root (Here c.args.root refl) in
    omega (arith, told.count, some_columns c.args.trace.now (past_depth (tree_at c.args.table.now c.args.root)) c.requires.trace)

pub returns-clause-ok : goal.returns-clause-ok
returns-clause-ok c =
    let told = c.in_ok-values.ensures.ok c.args.root (Here c.args.root refl) in
    let some : 0 < positions c.args.trace.now (tree_at c.args.table.now c.args.root) =
    some_columns c.args.trace.now (past_depth (tree_at c.args.table.now c.args.root)) c.requires.trace in
    subst (λ v. IsTrue v ↔ Satisfies c.args.trace.now (tree_at c.args.table.now c.args.root)) (sym c.at-2.ensures) (told.right 0 some)
