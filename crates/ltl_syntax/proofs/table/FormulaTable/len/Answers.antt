use Rattle.ltl_syntax.proofs.table.FormulaTable.len.Goals as goal

pub returns-clause-single : goal.returns-clause-single
returns-clause-single c number = rw (← c.self.view_is) (c.self.invariant.0.single number)
