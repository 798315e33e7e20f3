-- What constraints speak of.
use Rattle.std.specs.Prelude.{ℕ, ◌-◌, ◌<◌, ◌≤◌, List, length, All}
use Rattle.demand.specs.declared.row.Row.{Row as StoredRow}
use Rattle.demand.specs.declared.constraint.Constraint.{Constraint}
use Rattle.demand.specs.declared.constraint.Constraint.TheVariants as constraints
use Rattle.demand.specs.declared.refusing.Waiting.{Waiting}
use Rattle.demand.specs.declared.pruning.Pruning.{Pruning}
use Rattle.demand.specs.declared.pruning.Pruning.TheVariants as prunings
use Rattle.demand.specs.Rows.{rows_in}

-- the states that prune state i are before it
abbrev pub AreBefore : ℕ → Pruning → Type 0
AreBefore i (prunings.Triple l j) = (l < j) × (j < i)
AreBefore i (prunings.Pair j) = j < i

-- of states up to k, and of this number of places and of eventualities
abbrev pub IsWithin : (k places eventualities : ℕ) → Constraint → Type 0
IsWithin k places eventualities (constraints.Place l i q value) = (l < i) × (i ≤ k) × (q < places)
IsWithin k places eventualities (constraints.Loop l i) = (l < i) × (i ≤ k)
IsWithin k places eventualities (constraints.Fulfilment l i m) = (l < i) × (i ≤ k) × (m < eventualities)
IsWithin k places eventualities (constraints.Pruning p) = (p.state ≤ k) × AreBefore p.state p.by

-- of the states of these rows, and of the places and eventualities of the last one
abbrev pub IsOf : List StoredRow → Constraint → Type 0
IsOf rows constraint = IsWithin (length rows - 1) (length (rows_in rows (length rows - 1)).carry) (length (rows_in rows (length rows - 1)).pending) constraint

-- of the eventualities of the last one
abbrev pub AreWaiting : List StoredRow → List Waiting → Type 0
AreWaiting rows waiting = All (λ w. w.eventuality < length (rows_in rows (length rows - 1)).pending) waiting
