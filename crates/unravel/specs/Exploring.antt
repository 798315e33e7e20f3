-- What one depth more comes to.
use Rattle.std.specs.Prelude.{◌≡◌, ℕ, ◌+◌, List, Option, Some, None}
use Rattle.ltl_word.specs.declared.trace.Trace.{Trace}
use Rattle.ltl_closure.specs.Entries.{ClosureValue}
use Rattle.ltl_closure.specs.Run.{HasAccepted}
use Rattle.cnf_base.specs.declared.literal.Literal.{Literal as Signed}
use Rattle.unravel.specs.declared.inputs.Inputs.{Inputs}
use Rattle.unravel.specs.Decision.{IsTraceOfRun, IsModel}
use Rattle.unravel.specs.Exploration.{ExplorationValue, IsPrepared}
use Rattle.unravel.specs.declared.exploring.Explored.{Explored}
use Rattle.unravel.specs.declared.exploring.Explored.TheVariants as explored

-- a trace of an accepted run of depth k, which satisfies the formula; or no run of it is accepted, and all is prepared for the depth after it
abbrev pub IsLooked : ClosureValue → ℕ → Inputs → List Signed → Option Trace → Type 0
IsLooked c k i literals (Some t) = IsTraceOfRun c.formula c.kind k t × IsModel c.formula c.kind t
IsLooked c k i literals None = (¬ HasAccepted c.formula c.kind k) × IsPrepared c (k + 1) i literals

-- a trace of an accepted run of the next depth, which satisfies the formula; or no run of it is accepted, and the depth after it is next
abbrev pub IsExplored : ExplorationValue → Explored → Type 0
IsExplored e (explored.Found k t) =
    (k ≡ e.depth) × IsTraceOfRun e.closure.formula e.closure.kind k t × IsModel e.closure.formula e.closure.kind t
IsExplored e (explored.Open next) =
    (¬ HasAccepted e.closure.formula e.closure.kind e.depth) × (next ≡ record { closure = e.closure; depth = e.depth + 1 })
