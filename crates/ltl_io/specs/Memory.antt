-- What a source and a sink over memory are, which of their calls fail, and how much the others give or take.
use Rattle.std.specs.Prelude.{ℕ, ◌-◌, List, Bool, ◌&&◌, ◌||◌, nat_lt, nat_le, ◌==◌, length, min}
use Rattle.std.specs.List.{list_any}
use Rattle.ltl_io.specs.Count.{last_count, next_count}

-- a source over memory: what is left, the most that a call gives, the numbers of the calls that fail, the calls made so far, and its faults
pub record MemoryInput : Type 0 where
  pub rest : List ℕ
  pub step : ℕ
  pub failing : List ℕ
  pub calls : ℕ
  pub faults : ℕ

-- a sink over memory: what was taken, the room in all, the most that a call takes, the numbers of the calls that fail, the calls made so far, and its faults
pub record MemoryOutput : Type 0 where
  pub content : List ℕ
  pub room : ℕ
  pub step : ℕ
  pub failing : List ℕ
  pub calls : ℕ
  pub faults : ℕ

-- the call after this number of calls is a named one; none is named once the numbers stand still
abbrev pub names_next : List ℕ → ℕ → Bool
names_next failing calls = nat_lt (next_count calls) last_count && list_any (λ number. number == next_count calls) failing

-- the next read fails: it is a named call
abbrev pub refuses_read : MemoryInput → Bool
refuses_read s = names_next s.failing s.calls

-- the next write fails: it is a named call, or no room is left
abbrev pub refuses_write : MemoryOutput → Bool
refuses_write s = names_next s.failing s.calls || nat_le s.room (length s.content)

-- how many bytes the next read gives into this number of places
abbrev pub amount_given : MemoryInput → ℕ → ℕ
amount_given s places = min (min (length s.rest) s.step) places

-- how many bytes the next write takes of this number
abbrev pub amount_taken : MemoryOutput → ℕ → ℕ
amount_taken s bytes = min (min (s.room - length s.content) s.step) bytes
