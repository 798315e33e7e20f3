use Rattle.ltl_syntax.proofs.table.FormulaTable.invariant.Goals as goal

pub returns : goal.returns
returns c = rw (← c.self.view_is) c.self.invariant.0
