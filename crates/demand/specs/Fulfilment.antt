-- When an eventuality was fulfilled last.
use Rattle.std.specs.Prelude.{ℕ, zero, suc, if◌then◌else◌}
use Rattle.demand.specs.Values.{value_at}
use Rattle.demand.specs.Rows.{Rows}

-- the last state from 1 to i at which eventuality m + 1 is fulfilled, 0 where it is at none
abbrev pub last_done : Rows → ℕ → ℕ → ℕ
last_done rows zero m = 0
last_done rows (suc i) m = if value_at (rows (suc i)).fulfilled m then suc i else last_done rows i m
