-- Counts of clauses before the gates of evenly chosen entries.
use Rattle.std.specs.Prelude.{◌≡◌, ℕ, ◌*◌, ◌<◌, ◌≤◌, List, length, min, slice_index_or}
use Rattle.ltl_closure.specs.declared.entry.Entry.{Entry}
use Rattle.clause_index.specs.declared.samples.Samples.{Samples}
use Rattle.clause_index.specs.ByNumber.{gates_before}

-- how many entries there are before a sample
abbrev pub sample_start : List Entry → ℕ → ℕ → ℕ
sample_start entries apart b = min (b * apart) (length entries)

pub record AreSamples (entries : List Entry) (samples : Samples) : Type 0 where
  pub near : samples.apart ≤ 98307
  pub each : (b : ℕ) → b < 256 → slice_index_or samples.before b 0 ≡ gates_before entries (sample_start entries samples.apart b)
