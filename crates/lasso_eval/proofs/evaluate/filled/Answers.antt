use Rattle.std.proofs.Common.{[], inl, inr, sym, subst, arith}
use Rattle.std.proofs.lemmas.Bool.{cases_lt}
use Rattle.std.proofs.Math.ListN.{get_or-eq_default}
use Rattle.ltl_syntax.specs.Table.{tree_at}
use Rattle.lasso_eval.specs.Rows.{Tells, row_at}
use Rattle.ltl_syntax.specs.Under.{Below}
use Rattle.ltl_syntax.proofs.Under.{under_low}
use Rattle.lasso_eval.proofs.Shallow.{under_shallow}
use Rattle.lasso_eval.proofs.evaluate.filled.Goals as goal

pub node_row-requires-clause-children : goal.node_row-requires-clause-children
node_row-requires-clause-children c node child low at has =
    subst (λ rows. Tells c.args.trace.now c.args.extent.depth (tree_at c.args.table.now child) (row_at rows child)) (sym c.deref.ensures.value)
    (c.loop-number.invariant.each child low (Below c.loop-number.number child node ((c.requires.marks c.loop-number.number).0 c.if-marks-number.true) at has))

pub node_row-requires-clause-deep : goal.node_row-requires-clause-deep
node_row-requires-clause-deep c =
    let under = (c.requires.marks c.loop-number.number).0 c.if-marks-number.true in
    omega (arith, under_shallow c.args.table.now c.invariant.ensures c.args.root c.loop-number.number under, c.requires.depth)

pub returns-clause-each : goal.returns-clause-each
returns-clause-each c number under =
    let low = under_low c.args.table.now c.invariant.ensures c.args.root c.requires.root number under in
    c.loop-number.invariant.each number (omega (arith, low, c.loop-number-test.false)) under

pub returns-clause-others : goal.returns-clause-others
returns-clause-others c number not_under = elim (cases_lt number c.loop-number.number) [
  | inl low ↦ c.loop-number.invariant.others number low not_under
  | inr past ↦ get_or-eq_default c.loop-number.rows.items [] (omega (arith, past, c.loop-number.invariant.count))
]
