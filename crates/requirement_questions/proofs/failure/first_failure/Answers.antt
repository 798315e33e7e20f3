use Rattle.std.proofs.Common.{◌∙◌, sym}
use Rattle.requirement_questions.proofs.Failing.{first_column, first_cell}
use Rattle.requirement_questions.proofs.failure.first_failure.Goals as goal

pub at-requires : goal.at-requires
at-requires c = first_column c.args.table.now c.args.root c.args.trace.now c.in_ok-rows.rows c.in_ok-rows.ensures.ok c.requires.trace

pub returns-then-at-clause-first : goal.returns-then-at-clause-first
returns-then-at-clause-first c =
    (first_cell c.args.table.now c.args.root c.args.trace.now c.in_ok-rows.rows c.in_ok-rows.ensures.ok c.requires.trace).0 (sym c.at.ensures ∙ c.if-at.true)

pub failing-position-requires-clause-fails : goal.failing-position-requires-clause-fails
failing-position-requires-clause-fails c h =
    let cell = (first_cell c.args.table.now c.args.root c.args.trace.now c.in_ok-rows.rows c.in_ok-rows.ensures.ok c.requires.trace).1 h in
    let here = c.at.ensures in
    let not' = c.if-at.false in cc
