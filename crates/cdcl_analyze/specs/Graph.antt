-- The implication graph, as contracts see it.
use Rattle.std.specs.Prelude.{◌^◌, ◌≤◌, Bool, List, Option, length}
use Rattle.clause_log.specs.LogValue.{LogValue}
use Rattle.cdcl_trail.specs.Trail.{IsTrail, AreValues}
use Rattle.cdcl_trail.specs.Values.{AreBelow}
use Rattle.cdcl_trail.specs.declared.assigned.TrailEntry.{TrailEntry}

-- the log whose clauses are reasons, the values of the letters, and the trail, whose literals are the nodes
pub record GraphValue : Type 0 where
  pub log : LogValue
  pub values : List (Option Bool)
  pub trail : List TrailEntry

-- the reasons of the trail are clauses of the log, whose letters are known, and the values are those of the trail
pub record IsGraph (graph : GraphValue) : Type 0 where
  pub is_trail : IsTrail graph.log.inputs graph.log.lines graph.trail
  pub told : AreValues graph.values graph.trail
  pub known_inputs : AreBelow (length graph.values) graph.log.inputs
  pub known_lines : AreBelow (length graph.values) graph.log.lines
  pub few : length graph.values ≤ 2 ^ 32
