use Rattle.batch_run.proofs.Sound.{sat_has_trace, unsat_has_none, undecided_is_below}
use Rattle.batch_run.proofs.laws.verdicts.Goals as goal

pub returns-clause-sat : goal.returns-clause-sat
returns-clause-sat c = sat_has_trace c.words.ensures.no_brace c.printed_text.ensures.printable c.satisfiable.ensures.sound

pub returns-clause-unsat : goal.returns-clause-unsat
returns-clause-unsat c = unsat_has_none c.unsatisfiable.ensures

pub returns-clause-undecided : goal.returns-clause-undecided
returns-clause-undecided c = undecided_is_below c.bounded.ensures.settled
