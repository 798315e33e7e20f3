use Rattle.std.proofs.Common.{◌≡◌, ◌++◌, take}
use Rattle.enc_layout.specs.Clauses.{signed_clauses}
use Rattle.clause_index.specs.Sections.{section_clauses}
use Rattle.clause_index.proofs.appending.push_section.Given as goal

abbrev pub invariant-clauses : goal.invariant-clauses
invariant-clauses l =
    l.list ≡ l.fn.list ++ take l.index (signed_clauses l.indexed.formula l.indexed.kind (section_clauses l.indexed.formula l.indexed.kind l.step l.fn.section))
