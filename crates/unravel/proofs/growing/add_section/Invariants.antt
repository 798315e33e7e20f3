use Rattle.std.proofs.Common.{take, All, Contains}
use Rattle.enc_layout.specs.Clauses.{signed_clauses}
use Rattle.clause_index.specs.Sections.{section_clauses}
use Rattle.unravel.specs.Putting.{HasMore}
use Rattle.unravel.proofs.growing.add_section.Given as goal

abbrev pub invariant-clauses : goal.invariant-clauses
invariant-clauses l = record {
  more : HasMore l.listed l.fn.inputs l.inputs;
  there : All (Contains l.inputs.solver.log.inputs)
      (take l.index (signed_clauses l.listed.formula l.listed.kind (section_clauses l.listed.formula l.listed.kind l.step l.fn.section)));
}
