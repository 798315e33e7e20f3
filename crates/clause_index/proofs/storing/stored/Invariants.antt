use Rattle.std.proofs.Common.{◌≡◌, take}
use Rattle.enc_layout.specs.Clauses.{clause_list}
use Rattle.clause_index.proofs.storing.stored.Given as goal

abbrev pub invariant-clauses : goal.invariant-clauses
invariant-clauses l = l.list ≡ take l.index (clause_list l.indexed.formula l.indexed.kind l.indexed.depth)
