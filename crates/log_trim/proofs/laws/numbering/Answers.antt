use Rattle.std.proofs.Common.{add-one}
use Rattle.log_trim.proofs.MarkedLines.{hint_earlier, table_on, table_has}
use Rattle.log_trim.proofs.laws.numbering.Goals as goal

pub returns-clause-on : goal.returns-clause-on
returns-clause-on c M lines k n table are e = rw (add-one k) (table_on M lines k n table are (rw (add-one k) at e))

pub returns-clause-has : goal.returns-clause-has
returns-clause-has c log M k m table is lt h are =
    let w = hint_earlier log is k m lt h in
    (w.0, w.1, λ i e. table_has M log.lines k m table w.1 are i e)
