-- What is learnt of a conflict.
use Rattle.std.specs.Prelude.{◌≡◌, ◌<◌, List, map, All, AllPairs}
use Rattle.cnf_base.specs.Literal.{opposite}
use Rattle.cnf_base.specs.Step.{IsHintedStep}
use Rattle.clause_log.specs.LogValue.{LogValue, greatest_u32}
use Rattle.cdcl_trail.specs.declared.assigned.TrailEntry.{TrailEntry}
use Rattle.cdcl_analyze.specs.declared.analyze.Learnt.{Learnt}
use Rattle.cdcl_trail.specs.Trail.{literal_at, IsInside}

-- the clause is a hinted step, and has the opposites of the literals at the places, the last first
pub record IsLearnt (log : LogValue) (trail : List TrailEntry) (learnt : Learnt) : Type 0 where
  pub step : IsHintedStep log.inputs log.lines greatest_u32 learnt.clause.items learnt.hints.items
  pub clause_is : learnt.clause.items ≡ map (λ p. opposite (literal_at trail p)) learnt.places.items
  pub inside : All (IsInside trail) learnt.places.items
  pub falling : AllPairs (λ p q. q < p) learnt.places.items
