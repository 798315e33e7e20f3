-- The clause that forced a letter, as it is read, and what has to hold where reasons are read.
use Rattle.std.specs.Prelude.{◌^◌, ◌≤◌, List, length, map}
use Rattle.cnf_base.specs.declared.literal.Literal.{Literal}
use Rattle.clause_log.specs.LogValue.{LogValue}
use Rattle.cdcl_trail.specs.Assigned.{AssignedValue}
use Rattle.cdcl_trail.specs.Trail.{IsTrail}
use Rattle.cdcl_trail.specs.Entries.{hint_of}
use Rattle.cdcl_trail.specs.Values.{AreBelow}
use Rattle.cdcl_watches.specs.Heads.{ArenaValue}
use Rattle.cdcl_propagate.specs.Visit.{IsStored}
use Rattle.cdcl_analyze.specs.declared.reason.Reason.{Reason}
use Rattle.cdcl_analyze.specs.declared.reason.Reason.TheVariants.{Watched, Logged}

-- the literals that are read, in their order there
abbrev pub read_literals : Reason → List Literal
read_literals (Watched clause) = clause
read_literals (Logged literals) = literals.now

-- the reasons of the trail are clauses of the log, whose letters are known, and the buffer has them under their names
pub record IsAnalyzable (log : LogValue) (assigned : AssignedValue) (arena : ArenaValue) : Type 0 where
  pub is_trail : IsTrail log.inputs log.lines assigned.trail
  pub known_inputs : AreBelow (length assigned.values) log.inputs
  pub known_lines : AreBelow (length assigned.values) log.lines
  pub few : length assigned.values ≤ 2 ^ 32
  pub stored : IsStored log.inputs log.lines arena.clauses (map hint_of arena.names)
