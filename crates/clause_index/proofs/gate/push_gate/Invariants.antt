use Rattle.std.proofs.Common.{◌≡◌, ◌++◌, take}
use Rattle.clause_index.specs.Rows.{gate_rows}
use Rattle.clause_index.proofs.gate.push_gate.Given as goal

abbrev pub invariant-clauses : goal.invariant-clauses
invariant-clauses l = l.list ≡ l.fn.list ++ take l.index (gate_rows l.fn.entry l.fn.of)
